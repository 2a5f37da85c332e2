-- Reading letters and words one after the other: for the loops over the bytes of a field and over the fields of a `tuple` line.
use Rattle.std.proofs.Common.{◌≡◌, ℕ, ◌+◌, ◌*◌, ◌<◌, ◌≤◌, ltb, Bool, true, false, cond, List, [], ◌∷◌, ◌++◌, length, map, get_or, drop, sym, ap, ◌∙◌, refl, subst, arith, None, Some, append-nil, Ok, Err}
use Rattle.std.specs.Prelude.{codes}
use Rattle.std.specs.declared.option.Option.{Option}
use Rattle.std.specs.List.{All, sum_by}
use Rattle.std.proofs.lemmas.List.{drop_more, drop_all, length-map}
use Rattle.std.proofs.lemmas.List.Elements.{All-nil, All-cons, All-head, All-tail}
use Rattle.std.proofs.lemmas.List.Sums.{sum_by-cons}
use Rattle.std.proofs.lemmas.Bool.Decides.{nat_tests}
use Rattle.std.proofs.lemmas.Bool.{cond-false}
use Rattle.wh_words.specs.Words.{free_reduction, IsOfRank}
use Rattle.wh_words.specs.CyclicWords.{cyclic_word}
use Rattle.wh_words.proofs.FreeReduction.{free_reduction-length}
use Rattle.wh_words.proofs.StoredWords.{free_reduction-of_rank, cyclic_word-length}
use Rattle.wh_words.proofs.Rotations.{cyclic_word-free_reduction}
use Rattle.wh_lines.specs.declared.read_error.ReadError.TheVariants as errors
use Rattle.wh_lines.specs.Lines.{Field, are}
use Rattle.wh_lines.specs.Scans.{bytes_within}
use Rattle.wh_lines.specs.Readings.{◌>>=◌, items_at}
use Rattle.wh_fields.specs.Words.{letter_of, letter_text, letter_at, letters_at, word_at}
use Rattle.wh_fields.specs.TupleFields.{words_at, short_tuple}
use Rattle.wh_lines.proofs.Equations.{bind_ok, ok_is, is_not_more}
use Rattle.wh_lines.proofs.ItemReadings.{with_front, front_more}

-- ---- letters
letters_step : (n l c : ℕ) (bs : List ℕ) (i b : ℕ) → i < length bs → b ≡ get_or bs i b →
    letters_at n l c (drop i bs) ≡ (letter_at l c (letter_of n b) >>= λ x. letters_at n l (c + 1) (drop (i + 1) bs) >>= λ xs. Ok (x ∷ xs))
unfolding letters_at
letters_step n l c bs i b lt is =
    ap (letters_at n l c) (drop_more bs i b lt)
    ∙ ap (λ d. letter_at l c (letter_of n d) >>= λ x. letters_at n l (c + 1) (drop (i + 1) bs) >>= λ xs. Ok (x ∷ xs)) (sym is)

pub letters_more : (n l c : ℕ) (bs out : List ℕ) (i b x at : ℕ) → i < length bs → b ≡ get_or bs i b → Some x ≡ letter_of n b →
    with_front out (letters_at n l at (drop i bs)) ≡ letters_at n l c bs → with_front (out ++ x ∷ []) (letters_at n l (at + 1) (drop (i + 1) bs)) ≡ letters_at n l c bs
letters_more n l c bs out i b x at lt is e h =
    front_more out x (letters_at n l (at + 1) (drop (i + 1) bs))
    ∙ ap (λ o. with_front out (letter_at l at o >>= λ x. letters_at n l (at + 1) (drop (i + 1) bs) >>= λ xs. Ok (x ∷ xs))) e
    ∙ sym (ap (with_front out) (letters_step n l at bs i b lt is)) ∙ h

pub letters_none : (n l c : ℕ) (bs out : List ℕ) (i b at : ℕ) → i < length bs → b ≡ get_or bs i b → None ≡ letter_of n b →
    with_front out (letters_at n l at (drop i bs)) ≡ letters_at n l c bs → letters_at n l c bs ≡ Err (errors.BadLetter l at)
letters_none n l c bs out i b at lt is e h =
    sym h ∙ ap (with_front out) (letters_step n l at bs i b lt is)
    ∙ sym (ap (λ o. with_front out (letter_at l at o >>= λ x. letters_at n l (at + 1) (drop (i + 1) bs) >>= λ xs. Ok (x ∷ xs))) e)

pub letters_end : (n l c : ℕ) (bs out : List ℕ) (i at : ℕ) → length bs ≤ i → with_front out (letters_at n l at (drop i bs)) ≡ letters_at n l c bs → letters_at n l c bs ≡ Ok out
unfolding letters_at
letters_end n l c bs out i at le h = sym h ∙ ap (λ r. with_front out (letters_at n l at r)) (drop_all i bs le) ∙ ap (λ v. Ok v) (append-nil out)

pub letter_some : (n l c : ℕ) (o : Option ℕ) (x : ℕ) → letter_at l c o ≡ Ok x → o ≡ Some x
letter_some n l c None x e = absurd (cc)
letter_some n l c (Some y) x e = ap (λ v. Some v) (ok_is y x e)

pub letter_is : (n b x : ℕ) → n ≤ 26 → letter_of n b ≡ Some x → (b ≡ letter_text x) × (x < 2 * n)
letter_is n b x h e = grind (arith, nat_tests)

pub text_from : (n l c : ℕ) (bs xs : List ℕ) → n ≤ 26 → letters_at n l c bs ≡ Ok xs → (bs ≡ map letter_text xs) × All (λ x. x < 2 * n) xs
unfolding letters_at
text_from n l c [] xs h e = subst (λ (v : List ℕ). ([] ≡ map letter_text v) × All (λ x. x < 2 * n) v) (ok_is [] xs e) (refl, All-nil (λ x. x < 2 * n))
text_from n l c (b ∷ bs) xs h e =
    let p = bind_ok (letter_at l c (letter_of n b)) (λ x. letters_at n l (c + 1) bs >>= λ ys. Ok (x ∷ ys)) xs e in
    let q = bind_ok (letters_at n l (c + 1) bs) (λ ys. Ok (p.0 ∷ ys)) xs p.2 in
    let first : (b ≡ letter_text p.0) × (p.0 < 2 * n) = letter_is n b p.0 h (letter_some n l c (letter_of n b) p.0 p.1) in
    let rest : (bs ≡ map letter_text q.0) × All (λ x. x < 2 * n) q.0 = text_from n l (c + 1) bs q.0 h q.1 in
    subst (λ (v : List ℕ). (b ∷ bs ≡ map letter_text v) × All (λ x. x < 2 * n) v) (ok_is (p.0 ∷ q.0) xs q.2)
    ((ap (λ d. d ∷ bs) first.0 ∙ ap (λ ds. letter_text p.0 ∷ ds) rest.0), All-cons (λ x. x < 2 * n) p.0 q.0 first.1 rest.1)

-- ---- words
word_by : (t : Bool) (n l : ℕ) (f : Field) (w : List ℕ) → n ≤ 26 → cond t (Ok []) (letters_at n l f.column f.bytes) ≡ Ok w → IsOfRank n w × (length w ≤ length f.bytes)
word_by true n l f w h e = subst (λ (v : List ℕ). IsOfRank n v × (length v ≤ length f.bytes)) (ok_is [] w e) (All-nil (λ x. x < 2 * n), omega arith)
word_by false n l f w h e = let r = text_from n l f.column f.bytes w h e in (r.1, omega (arith, ap length r.0, length-map w letter_text))

-- what words are that were read
pub record AreRead (n : ℕ) (fs : List Field) (ws : List (List ℕ)) : Type 0 where
  pub of_rank : All (IsOfRank n) ws
  pub count : length ws ≡ length fs
  pub total : sum_by length ws ≤ sum_by bytes_within fs

pub words_read : (n l : ℕ) (fs : List Field) (ws : List (List ℕ)) → n ≤ 26 → words_at n l fs ≡ Ok ws → AreRead n fs ws
unfolding items_at
words_read n l [] ws h e = subst (AreRead n []) (ok_is [] ws e) (record { of_rank = All-nil (IsOfRank n); count = refl; total = omega arith })
words_read n l (f ∷ fs) ws h e =
    let p = bind_ok (word_at n l f) (λ w. words_at n l fs >>= λ vs. Ok (w ∷ vs)) ws e in
    let q = bind_ok (words_at n l fs) (λ vs. Ok (p.0 ∷ vs)) ws p.2 in
    let a = word_by (are f.bytes (codes "1")) n l f p.0 h p.1 in
    let r = words_read n l fs q.0 h q.1 in
    subst (AreRead n (f ∷ fs)) (ok_is (p.0 ∷ q.0) ws q.2) (record {
      of_rank = All-cons (IsOfRank n) p.0 q.0 a.0 r.of_rank;
      count = omega (arith, r.count);
      total = omega (arith, sum_by-cons length p.0 q.0, sum_by-cons bytes_within f fs, r.total, a.1);
    })

-- ---- reduced
pub reduced_rank : (n : ℕ) (ws : List (List ℕ)) → All (IsOfRank n) ws → All (IsOfRank n) (map free_reduction ws)
reduced_rank n [] a = All-nil (IsOfRank n)
reduced_rank n (w ∷ ws) a = All-cons (IsOfRank n) (free_reduction w) (map free_reduction ws) (free_reduction-of_rank n w (All-head (IsOfRank n) w ws a)) (reduced_rank n ws (All-tail (IsOfRank n) w ws a))

pub cyclic_total : (ws : List (List ℕ)) → sum_by length (map cyclic_word (map free_reduction ws)) ≤ sum_by length ws
cyclic_total [] = omega arith
cyclic_total (w ∷ ws) =
    omega (
      arith,
      sum_by-cons length (cyclic_word (free_reduction w)) (map cyclic_word (map free_reduction ws)),
      sum_by-cons length w ws,
      cyclic_word-length (free_reduction w),
      free_reduction-length w,
      cyclic_total ws,
    )

pub reduced_cyclic : (ws : List (List ℕ)) → map cyclic_word (map free_reduction ws) ≡ map cyclic_word ws
reduced_cyclic [] = refl
reduced_cyclic (w ∷ ws) = ap (λ v. v ∷ map cyclic_word (map free_reduction ws)) (cyclic_word-free_reduction w) ∙ ap (λ vs. cyclic_word w ∷ vs) (reduced_cyclic ws)

pub short_done : (n l : ℕ) (ws : List (List ℕ)) → sum_by length ws ≤ 4096 → short_tuple n l ws ≡ Ok (record { rank = n; words = map cyclic_word (map free_reduction ws) })
short_done n l ws h = cond-false (ltb 4096 (sum_by length ws)) _ _ (is_not_more 4096 (sum_by length ws) h) ∙ sym (ap (λ vs. Ok (record { rank = n; words = vs })) (reduced_cyclic ws))
