-- Reading digits one after the other: for the loop over the bytes of a number.
use Rattle.std.proofs.Common.{◌≡◌, ℕ, ◌+◌, ◌<◌, ◌≤◌, List, length, get_or, drop, sym, ap, ◌∙◌, None, Some}
use Rattle.std.specs.Option.{option_and_then}
use Rattle.std.proofs.lemmas.List.{drop_more, drop_all}
use Rattle.wh_lines.specs.Numbers.{next_digit, digits_from}

digits_step : (bs : List ℕ) (i b n : ℕ) → i < length bs → b ≡ get_or bs i b → digits_from n (drop i bs) ≡ option_and_then (λ m. digits_from m (drop (i + 1) bs)) (next_digit n b)
unfolding digits_from
digits_step bs i b n l is = ap (digits_from n) (drop_more bs i b l) ∙ ap (λ d. option_and_then (λ m. digits_from m (drop (i + 1) bs)) (next_digit n d)) (sym is)

pub digits_more : (bs : List ℕ) (i b n m : ℕ) → i < length bs → b ≡ get_or bs i b → Some m ≡ next_digit n b → digits_from n (drop i bs) ≡ digits_from 0 bs → digits_from m (drop (i + 1) bs) ≡ digits_from 0 bs
digits_more bs i b n m l is e h = ap (option_and_then (λ k. digits_from k (drop (i + 1) bs))) e ∙ sym (digits_step bs i b n l is) ∙ h

pub digits_none : (bs : List ℕ) (i b n : ℕ) → i < length bs → b ≡ get_or bs i b → None ≡ next_digit n b → digits_from n (drop i bs) ≡ digits_from 0 bs → None ≡ digits_from 0 bs
digits_none bs i b n l is e h = ap (option_and_then (λ k. digits_from k (drop (i + 1) bs))) e ∙ sym (digits_step bs i b n l is) ∙ h

pub digits_end : (bs : List ℕ) (i n : ℕ) → length bs ≤ i → digits_from n (drop i bs) ≡ digits_from 0 bs → Some n ≡ digits_from 0 bs
unfolding digits_from
digits_end bs i n l h = sym (ap (digits_from n) (drop_all i bs l)) ∙ h
