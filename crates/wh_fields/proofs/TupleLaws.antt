-- A tuple and a rank are read exactly from the fields that spell them: for the law on whole texts.
use Rattle.std.proofs.Common.{◌≡◌, ◌≢◌, ℕ, ◌≤◌, ltb, List, [], ◌∷◌, length, map, sym, ap, ◌∙◌, refl, subst, arith, Ok, Err}
use Rattle.std.specs.List.{All, sum_by}
use Rattle.std.proofs.lemmas.List.Elements.{All-nil, All-cons, All-head, All-tail}
use Rattle.std.proofs.lemmas.Bool.{cond-false}
use Rattle.wh_words.specs.Words.{IsOfRank}
use Rattle.wh_words.specs.CyclicWords.{cyclic_word}
use Rattle.wh_words.specs.Tuples.{TupleData}
use Rattle.wh_lines.specs.declared.read_error.ReadError.TheVariants as errors
use Rattle.wh_lines.specs.Lines.{Field}
use Rattle.wh_lines.specs.Readings.{◌>>=◌, items_at}
use Rattle.wh_fields.specs.Words.{word_at, word_text}
use Rattle.wh_fields.specs.TupleFields.{words_at, short_tuple, tuple_at}
use Rattle.wh_fields.proofs.WordReadings.{words_read}
use Rattle.wh_fields.proofs.WordLaws.{reads_words}
use Rattle.wh_lines.proofs.Equations.{bind_ok, ok_is, unless_ok, not_more, is_not_more}
use Rattle.wh_lines.proofs.FieldLaws.{AreSome}

-- ---- words
words_are : (n l : ℕ) (fs : List Field) (ws : List (List ℕ)) → n ≤ 26 → AreSome fs → words_at n l fs ≡ Ok ws → (map (λ f. f.bytes) fs ≡ map word_text ws) × All (IsOfRank n) ws
unfolding items_at
words_are n l [] ws h g e = subst (λ (v : List (List ℕ)). ([] ≡ map word_text v) × All (IsOfRank n) v) (ok_is [] ws e) (refl, All-nil (IsOfRank n))
words_are n l (f ∷ fs) ws h g e =
    let p = bind_ok (word_at n l f) (λ w. words_at n l fs >>= λ vs. Ok (w ∷ vs)) ws e in
    let q = bind_ok (words_at n l fs) (λ vs. Ok (p.0 ∷ vs)) ws p.2 in
    let first = (reads_words n l f p.0 h (All-head (λ f. f.bytes ≢ []) f fs g)).0 p.1 in
    let rest = words_are n l fs q.0 h (All-tail (λ f. f.bytes ≢ []) f fs g) q.1 in
    subst (λ (v : List (List ℕ)). (f.bytes ∷ map (λ f. f.bytes) fs ≡ map word_text v) × All (IsOfRank n) v) (ok_is (p.0 ∷ q.0) ws q.2)
    (ap (λ w. w ∷ map (λ f. f.bytes) fs) first.0 ∙ ap (λ v. word_text p.0 ∷ v) rest.0, All-cons (IsOfRank n) p.0 q.0 first.1 rest.1)

words_back : (n l : ℕ) (fs : List Field) (ws : List (List ℕ)) → n ≤ 26 → AreSome fs → map (λ f. f.bytes) fs ≡ map word_text ws → All (IsOfRank n) ws → words_at n l fs ≡ Ok ws
unfolding items_at
words_back n l [] [] h g e a = refl
words_back n l [] (w ∷ ws) h g e a = absurd (cc)
words_back n l (f ∷ fs) [] h g e a = absurd (cc)
words_back n l (f ∷ fs) (w ∷ ws) h g e a =
    let first : f.bytes ≡ word_text w = (cc) in
    let rest : map (λ f. f.bytes) fs ≡ map word_text ws = (cc) in
    ap (λ r. r >>= λ w. words_at n l fs >>= λ vs. Ok (w ∷ vs)) ((reads_words n l f w h (All-head (λ f. f.bytes ≢ []) f fs g)).1 (first, All-head (IsOfRank n) w ws a))
    ∙ ap (λ r. r >>= λ vs. Ok (w ∷ vs)) (words_back n l fs ws h (All-tail (λ f. f.bytes ≢ []) f fs g) rest (All-tail (IsOfRank n) w ws a))

-- ---- tuples
-- the fields spell the words of a tuple
pub record Spell (n : ℕ) (fs : List Field) (t : TupleData) : Type 0 where
  pub written : List (List ℕ)
  pub spelled : map (λ f. f.bytes) fs ≡ map word_text written
  pub of_rank : All (IsOfRank n) written
  pub few : length written ≤ 64
  pub short : sum_by length written ≤ 4096
  pub cyclic : t ≡ record { rank = n; words = map cyclic_word written }

-- the tuple is made of the words that the fields tell
pub record MadeOfWords (n l : ℕ) (fs : List Field) (t : TupleData) : Type 0 where
  pub written : List (List ℕ)
  pub read : words_at n l fs ≡ Ok written
  pub few : length fs ≤ 64
  pub short : sum_by length written ≤ 4096
  pub cyclic : t ≡ record { rank = n; words = map cyclic_word written }

pub tuple_made : (n l : ℕ) (fs : List Field) (t : TupleData) → tuple_at n l fs ≡ Ok t → MadeOfWords n l fs t
unfolding tuple_at
tuple_made n l fs t e =
    let few = unless_ok (ltb 64 (length fs)) (errors.TooManyWords l (length fs)) (words_at n l fs >>= λ ws. short_tuple n l ws) t e in
    let p = bind_ok (words_at n l fs) (λ ws. short_tuple n l ws) t few.1 in
    let short = unless_ok (ltb 4096 (sum_by length p.0)) (errors.LongTuple l (sum_by length p.0)) (Ok (record { rank = n; words = map cyclic_word p.0 })) t p.2 in
    record {
      written = p.0;
      read = p.1;
      few = not_more 64 (length fs) few.0;
      short = not_more 4096 (sum_by length p.0) short.0;
      cyclic = sym (ok_is (record { rank = n; words = map cyclic_word p.0 }) t short.1);
    }

pub tuple_is : (n l : ℕ) (fs : List Field) (t : TupleData) → n ≤ 26 → AreSome fs → tuple_at n l fs ≡ Ok t → Spell n fs t
tuple_is n l fs t h g e =
    let made = tuple_made n l fs t e in
    let words = words_are n l fs made.written h g made.read in
    let read = words_read n l fs made.written h made.read in
    record {
      written = made.written;
      spelled = words.0;
      of_rank = words.1;
      few = omega (arith, read.count, made.few);
      short = made.short;
      cyclic = made.cyclic;
    }

pub tuple_back : (n l : ℕ) (fs : List Field) (t : TupleData) → n ≤ 26 → AreSome fs → Spell n fs t → tuple_at n l fs ≡ Ok t
unfolding tuple_at
tuple_back n l fs t h g s =
    let words : words_at n l fs ≡ Ok s.written = words_back n l fs s.written h g s.spelled s.of_rank in
    let read = words_read n l fs s.written h words in
    cond-false (ltb 64 (length fs)) (Err (errors.TooManyWords l (length fs))) (words_at n l fs >>= λ ws. short_tuple n l ws) (is_not_more 64 (length fs) (omega (arith, read.count, s.few)))
    ∙ ap (λ r. r >>= λ ws. short_tuple n l ws) words
    ∙ cond-false (ltb 4096 (sum_by length s.written)) (Err (errors.LongTuple l (sum_by length s.written))) (Ok (record { rank = n; words = map cyclic_word s.written })) (is_not_more 4096 (sum_by length s.written) s.short)
    ∙ sym (ap (λ v. Ok v) s.cyclic)
