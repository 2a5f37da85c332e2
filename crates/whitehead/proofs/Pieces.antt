-- One read or write after another, piece by piece.
use Rattle.std.proofs.Common.{ℕ, ◌+◌, ◌≤◌, List, [], ◌++◌, length, take, drop, sym, ap, ◌∙◌, refl, append_assoc, append-nil, None, Some, Ok, Err}
use Rattle.std.proofs.lemmas.List.{take_all}
use Rattle.std.proofs.Math.Seq.{take-add}
use Rattle.std.specs.declared.option.Option.{Option}
use Rattle.std.specs.Prelude.{OnErr}
use Rattle.std.specs.declared.result.Result.{Result}
use Rattle.wh_io.specs.Device.{Consumed, Appended}
use Rattle.whitehead.specs.Streams.{IsPartRead}

pub appended_then : (a b c : Option (List ℕ)) (xs ys : List ℕ) → Appended a b xs → Appended b c ys → Appended a c (xs ++ ys)
appended_then a b None xs ys p q = tt
appended_then a None (Some z) xs ys p q = absurd q
appended_then None (Some y) (Some z) xs ys p q = absurd p
appended_then (Some x) (Some y) (Some z) xs ys p q = q ∙ ap (λ v. v ++ ys) p ∙ append_assoc x xs ys

pub consumed_then : (a b c : Option (List ℕ)) (xs ys : List ℕ) → Consumed a b xs → Consumed b c ys → Consumed a c (xs ++ ys)
consumed_then a b None xs ys p q = tt
consumed_then a None (Some z) xs ys p q = absurd q
consumed_then None (Some y) (Some z) xs ys p q = absurd p
consumed_then (Some x) (Some y) (Some z) xs ys p q = p ∙ ap (λ v. xs ++ v) q ∙ sym (append_assoc xs ys z)

pub appended_none : (a : Option (List ℕ)) → Appended a a []
appended_none None = tt
appended_none (Some x) = sym (append-nil x)

pub consumed_none : (a : Option (List ℕ)) → Consumed a a []
consumed_none None = tt
consumed_none (Some x) = refl

-- the next piece of a text
pub appended_more : (a b c : Option (List ℕ)) (text : List ℕ) (at n : ℕ) → Appended a b (take at text) → Appended b c (take n (drop at text)) → Appended a c (take (at + n) text)
appended_more a b c text at n p q = rw (take-add at n text) (appended_then a b c (take at text) (take n (drop at text)) p q)

pub appended_whole : (a b : Option (List ℕ)) (text : List ℕ) (at : ℕ) → length text ≤ at → Appended a b (take at text) → Appended a b text
appended_whole a b text at h p = rw (take_all at text h) at p

-- a source that gave xs and then ys before an error is told
pub part_read : {T E : Type 0} (limit : ℕ) (a b c : Option (List ℕ)) (xs ys : List ℕ) (result : Result T E) → length (xs ++ ys) ≤ limit + 1 → Consumed a b xs → Consumed b c ys → OnErr result (IsPartRead limit a c)
part_read limit a b c xs ys (Ok x) short p q = tt
part_read limit a b c xs ys (Err e) short p q = (xs ++ ys, short, consumed_then a b c xs ys p q)
