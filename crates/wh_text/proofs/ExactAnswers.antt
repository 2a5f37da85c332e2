-- The verdict of a certificate and the lines of its command are read exactly from what they tell: for the law on certificates.
use Rattle.std.proofs.Common.{◌≡◌, ℕ, ◌≤◌, Bool, true, false, cond, List, [], ◌∷◌, ◌++◌, length, map, refl, sym, ap, ◌∙◌, subst, append-nil, Ok, Err}
use Rattle.std.specs.Prelude.{◌&&◌, ◌||◌, is_some, codes}
use Rattle.wh_lines.specs.declared.read_error.ReadError.TheVariants as errors
use Rattle.wh_lines.specs.Lines.{Field, are}
use Rattle.wh_lines.specs.Readings.{◌>>=◌}
use Rattle.wh_lines.specs.Numbers.{number}
use Rattle.wh_lines.specs.Rows.{Row}
use Rattle.wh_lines.proofs.Equations.{ok_is, if_ok, both_true, are_is}
use Rattle.wh_lines.proofs.ExactReadings.{Exact, Then, Headed, Nothing, OneRow, exact_none, exact_then, exact_head, exact_as}
use Rattle.wh_data.specs.declared.command.Command.{Command}
use Rattle.wh_data.specs.declared.command.Command.TheVariants as commands
use Rattle.wh_data.specs.AnswerData.{SideData, VerdictData}
use Rattle.wh_data.specs.AnswerData.VerdictData.{yes, no_length, no_level, undecided}
use Rattle.wh_data.specs.AnswerData.AnswerData.{reduce, decide}
use Rattle.wh_data.specs.AnswerTexts.{verdict_row}
use Rattle.wh_text.specs.Certificates.{tuple_after, like_after, moves_after, SideRead, side_after, level_after, VerdictWord, verdict_in, VerdictRead, sides_after, verdict_with, verdict_after, AnswerRead, reduced_after, decided_after, with_stab, stabilised_after, answer_with}
use Rattle.wh_text.specs.Certificates.VerdictWord.{a_yes, a_no_length, a_no_level}
use Rattle.wh_text.specs.CertificateTexts.{IsTupleRow, IsLikeRow, IsMovesRow, IsLevelText, AreSideTexts, IsVerdictText}
use Rattle.wh_text.proofs.ExactLines.{same_row, alone, IsSideRead, exact_tuple, exact_like, exact_moves, exact_side, exact_level}
use Rattle.wh_text.proofs.ExactParts.{Stabilises, exact_stab}

-- ---- a row, and what is read after it
pub one_then : {A B : Type 0} (T : Row → A → Type 0) (U : A → List Row → B → Type 0) (rows : List Row) (z : B) → Then (OneRow T) U rows z → Headed T U rows z
one_then T U rows z s = record { x = s.x; head = s.one.row; later = s.second; parts = s.parts ∙ ap (λ rs. rs ++ s.second) s.one.parts; one = s.one.one; two = s.two }

pub then_one : {A B : Type 0} (T : Row → A → Type 0) (U : A → List Row → B → Type 0) (rows : List Row) (z : B) → Headed T U rows z → Then (OneRow T) U rows z
then_one T U rows z s = record { x = s.x; first = s.head ∷ []; second = s.later; parts = s.parts; one = record { row = s.head; parts = refl; one = s.one }; two = s.two }

-- ---- two sides
abbrev pub Sides : ℕ → ℕ → List Row → SideRead × SideRead → Type 0
Sides n count = Then (IsSideRead n count) (λ a. Then (IsSideRead n count) (λ b. Nothing (a, b)))

abbrev SidesTold : ℕ → ℕ → List Row → SideRead × SideRead → Type 0
SidesTold n count rows s = AreSideTexts n count rows s.0.side s.1.side (s.0.heads ++ s.1.heads)

sides_there : (n count : ℕ) (rows : List Row) (s : SideRead × SideRead) → Sides n count rows s → SidesTold n count rows s
sides_there n count rows s u =
    let second = alone (u.x, u.two.x) s u.second u.two.first u.two.second u.two.parts u.two.two in
    subst (SidesTold n count rows) u.two.two.same (record {
      first = u.first;
      second = u.two.first;
      first_heads = u.x.heads;
      second_heads = u.two.x.heads;
      parts = u.parts ∙ ap (λ rs. u.first ++ rs) second;
      one = u.one;
      two = u.two.one;
      heads_of = refl;
    })

sides_again : (n count : ℕ) (rows : List Row) (a b : SideData) (heads : List (ℕ × ℕ)) (s : AreSideTexts n count rows a b heads) → Sides n count rows (record { side = a; heads = s.first_heads }, record { side = b; heads = s.second_heads })
sides_again n count rows a b heads s = record {
  x = record { side = a; heads = s.first_heads };
  first = s.first;
  second = s.second;
  parts = s.parts;
  one = s.one;
  two = record {
    x = record { side = b; heads = s.second_heads };
    first = s.second;
    second = [];
    parts = sym (append-nil s.second);
    one = s.two;
    two = record { none = refl; same = refl };
  };
}

pub exact_sides : (n count : ℕ) → n ≤ 26 → Exact (sides_after n count) (Sides n count)
unfolding sides_after
exact_sides n count h =
    exact_then (side_after n count) (λ a. side_after n count a.1 >>= λ b. Ok ((a.0, b.0), b.1)) (IsSideRead n count) (λ a. Then (IsSideRead n count) (λ b. Nothing (a, b)))
    (exact_side n count h)
    (λ a. exact_then (side_after n count) (λ b. Ok ((a, b.0), b.1)) (IsSideRead n count) (λ b. Nothing (a, b)) (exact_side n count h) (λ b. exact_none (a, b)))

-- ---- verdicts
abbrev pub word_fields : VerdictWord → List (List ℕ)
word_fields a_yes = codes "yes" ∷ []
word_fields a_no_length = codes "no" ∷ codes "length" ∷ []
word_fields a_no_level = codes "no" ∷ codes "level" ∷ []

abbrev pub word_row : VerdictWord → Row
word_row w = record { keyword = codes "verdict"; fields = word_fields w }

two_are : (f g : Field) (a b : List ℕ) → (are f.bytes a && are g.bytes b) ≡ true → f.bytes ∷ g.bytes ∷ [] ≡ a ∷ b ∷ []
two_are f g a b e =
    let p = both_true (are f.bytes a) (are g.bytes b) e in
    ap (λ v. v ∷ g.bytes ∷ []) (are_is f.bytes a p.0) ∙ ap (λ v. a ∷ v ∷ []) (are_is g.bytes b p.1)

no_told : (l : ℕ) (f g : Field) (w : VerdictWord) (s t : Bool) → (are f.bytes (codes "no") && are g.bytes (codes "length")) ≡ s → (are f.bytes (codes "no") && are g.bytes (codes "level")) ≡ t →
    cond s (Ok a_no_length) (cond t (Ok a_no_level) (Err (errors.BadLine l))) ≡ Ok w → f.bytes ∷ g.bytes ∷ [] ≡ word_fields w
no_told l f g w true t a b e = two_are f g (codes "no") (codes "length") a ∙ ap word_fields (ok_is a_no_length w e)
no_told l f g w false true a b e = two_are f g (codes "no") (codes "level") b ∙ ap word_fields (ok_is a_no_level w e)
no_told l f g w false false a b e = absurd (cc)

pub word_told : (l : ℕ) (fs : List Field) (w : VerdictWord) → verdict_in l fs ≡ Ok w → map (λ f. f.bytes) fs ≡ word_fields w
unfolding verdict_in
word_told l [] w e = absurd (cc)
word_told l (f ∷ []) w e =
    let p = if_ok (are f.bytes (codes "yes")) (errors.BadLine l) (Ok a_yes) w e in
    ap (λ v. v ∷ []) (are_is f.bytes (codes "yes") p.0) ∙ ap word_fields (ok_is a_yes w p.1)
word_told l (f ∷ g ∷ []) w e = no_told l f g w (are f.bytes (codes "no") && are g.bytes (codes "length")) (are f.bytes (codes "no") && are g.bytes (codes "level")) refl refl e
word_told l (f ∷ g ∷ h ∷ []) w e = by (are f.bytes (codes "undecided") && ((are g.bytes (codes "length") || are g.bytes (codes "level")) && is_some (number h.bytes))) e
  where
    by : (t : Bool) → cond t (Err (errors.NoCertificate l)) (Err (errors.BadLine l)) ≡ Ok w → f.bytes ∷ g.bytes ∷ h.bytes ∷ [] ≡ word_fields w
    by true e = absurd (cc)
    by false e = absurd (cc)
word_told l (f ∷ g ∷ h ∷ i ∷ fs) w e = absurd (cc)

word_back : (l : ℕ) (w : VerdictWord) (fs : List Field) → map (λ f. f.bytes) fs ≡ word_fields w → verdict_in l fs ≡ Ok w
unfolding verdict_in
word_back l a_yes [] e = absurd (cc)
word_back l a_yes (f ∷ []) e = let b : f.bytes ≡ codes "yes" = (cc) in ap (λ v. cond (are v (codes "yes")) (Ok a_yes) (Err (errors.BadLine l))) b
word_back l a_yes (f ∷ g ∷ fs) e = absurd (cc)
word_back l a_no_length [] e = absurd (cc)
word_back l a_no_length (f ∷ []) e = absurd (cc)
word_back l a_no_length (f ∷ g ∷ []) e =
    let b : f.bytes ≡ codes "no" = (cc) in
    let c : g.bytes ≡ codes "length" = (cc) in
    ap (λ v. verdict_in l (record { column = f.column; bytes = v } ∷ g ∷ [])) b ∙ ap (λ v. verdict_in l (record { column = f.column; bytes = codes "no" } ∷ record { column = g.column; bytes = v } ∷ [])) c
word_back l a_no_length (f ∷ g ∷ h ∷ fs) e = absurd (cc)
word_back l a_no_level [] e = absurd (cc)
word_back l a_no_level (f ∷ []) e = absurd (cc)
word_back l a_no_level (f ∷ g ∷ []) e =
    let b : f.bytes ≡ codes "no" = (cc) in
    let c : g.bytes ≡ codes "level" = (cc) in
    ap (λ v. verdict_in l (record { column = f.column; bytes = v } ∷ g ∷ [])) b ∙ ap (λ v. verdict_in l (record { column = f.column; bytes = codes "no" } ∷ record { column = g.column; bytes = v } ∷ [])) c
word_back l a_no_level (f ∷ g ∷ h ∷ fs) e = absurd (cc)

-- what is read after each word
abbrev pub Worded : ℕ → ℕ → VerdictWord → List Row → VerdictRead → Type 0
Worded n count a_yes = Then (OneRow (IsMovesRow (codes "moves") n)) (λ ms. Nothing (record { verdict = yes ms; heads = [] }))
Worded n count a_no_length = Then (Sides n count) (λ s. Nothing (record { verdict = no_length s.0.side s.1.side; heads = s.0.heads ++ s.1.heads }))
Worded n count a_no_level = Then (Sides n count) (λ s. Then (IsLevelText n count) (λ ts. Nothing (record { verdict = no_level s.0.side s.1.side ts; heads = s.0.heads ++ s.1.heads })))

exact_worded : (n count : ℕ) → n ≤ 26 → (w : VerdictWord) → Exact (verdict_with n count w) (Worded n count w)
exact_worded n count h a_yes =
    exact_then (moves_after (codes "moves") n) (λ ms. Ok (record { verdict = yes ms.0; heads = [] }, ms.1)) (OneRow (IsMovesRow (codes "moves") n)) (λ ms. Nothing (record { verdict = yes ms; heads = [] }))
    (exact_moves (codes "moves") n h) (λ ms. exact_none (record { verdict = yes ms; heads = [] }))
exact_worded n count h a_no_length =
    exact_then (sides_after n count) (λ s. Ok (record { verdict = no_length s.0.0.side s.0.1.side; heads = s.0.0.heads ++ s.0.1.heads }, s.1)) (Sides n count)
    (λ s. Nothing (record { verdict = no_length s.0.side s.1.side; heads = s.0.heads ++ s.1.heads }))
    (exact_sides n count h) (λ s. exact_none (record { verdict = no_length s.0.side s.1.side; heads = s.0.heads ++ s.1.heads }))
exact_worded n count h a_no_level =
    exact_then (sides_after n count) (λ s. level_after n count s.1 >>= λ ts. Ok (record { verdict = no_level s.0.0.side s.0.1.side ts.0; heads = s.0.0.heads ++ s.0.1.heads }, ts.1)) (Sides n count)
    (λ s. Then (IsLevelText n count) (λ ts. Nothing (record { verdict = no_level s.0.side s.1.side ts; heads = s.0.heads ++ s.1.heads })))
    (exact_sides n count h)
    (λ s. exact_then (level_after n count) (λ ts. Ok (record { verdict = no_level s.0.side s.1.side ts.0; heads = s.0.heads ++ s.1.heads }, ts.1)) (IsLevelText n count)
    (λ ts. Nothing (record { verdict = no_level s.0.side s.1.side ts; heads = s.0.heads ++ s.1.heads }))
    (exact_level n count h) (λ ts. exact_none (record { verdict = no_level s.0.side s.1.side ts; heads = s.0.heads ++ s.1.heads })))

-- the rows from a verdict line on
abbrev pub WordIs : Row → VerdictWord → Type 0
WordIs r w = r ≡ word_row w

pub record IsVerdictRead (n count : ℕ) (rows : List Row) (v : VerdictRead) : Type 0 where
  pub after : List Row
  pub parts : rows ≡ verdict_row v.verdict ∷ after
  pub told : IsVerdictText n count after v.verdict v.heads

verdict_there : (n count : ℕ) (w : VerdictWord) (later : List Row) (v : VerdictRead) → Worded n count w later v → IsVerdictRead n count (word_row w ∷ later) v
verdict_there n count a_yes later v s =
    let parts = alone (record { verdict = yes s.x; heads = [] }) v later s.first s.second s.parts s.two in
    subst (IsVerdictRead n count (word_row a_yes ∷ later)) s.two.same (record { after = later; parts = refl; told = (s.one.row, parts ∙ s.one.parts, s.one.one, refl) })
verdict_there n count a_no_length later v s =
    let parts = alone (record { verdict = no_length s.x.0.side s.x.1.side; heads = s.x.0.heads ++ s.x.1.heads }) v later s.first s.second s.parts s.two in
    subst (IsVerdictRead n count (word_row a_no_length ∷ later)) s.two.same
    (record { after = later; parts = refl; told = subst (λ (rs : List Row). SidesTold n count rs s.x) (sym parts) (sides_there n count s.first s.x s.one) })
verdict_there n count a_no_level later v s =
    let level = alone (record { verdict = no_level s.x.0.side s.x.1.side s.two.x; heads = s.x.0.heads ++ s.x.1.heads }) v s.second s.two.first s.two.second s.two.parts s.two.two in
    subst (IsVerdictRead n count (word_row a_no_level ∷ later)) s.two.two.same
    (record { after = later; parts = refl; told = (s.first, s.two.first, s.parts ∙ ap (λ rs. s.first ++ rs) level, sides_there n count s.first s.x s.one, s.two.one) })

verdict_again : (n count : ℕ) (after : List Row) (verdict : VerdictData) (heads : List (ℕ × ℕ)) → IsVerdictText n count after verdict heads → Headed WordIs (Worded n count) (verdict_row verdict ∷ after) (record { verdict = verdict; heads = heads })
verdict_again n count after (yes ms) heads s = record {
  x = a_yes;
  head = word_row a_yes;
  later = after;
  parts = refl;
  one = refl;
  two = record {
    x = ms;
    first = after;
    second = [];
    parts = sym (append-nil after);
    one = record { row = s.0; parts = s.1; one = s.2 };
    two = record { none = refl; same = ap (λ hs. record { verdict = yes ms; heads = hs }) (sym s.3) };
  };
}
verdict_again n count after (no_length a b) heads s = record {
  x = a_no_length;
  head = word_row a_no_length;
  later = after;
  parts = refl;
  one = refl;
  two = record {
    x = (record { side = a; heads = s.first_heads }, record { side = b; heads = s.second_heads });
    first = after;
    second = [];
    parts = sym (append-nil after);
    one = sides_again n count after a b heads s;
    two = record { none = refl; same = ap (λ hs. record { verdict = no_length a b; heads = hs }) (sym s.heads_of) };
  };
}
verdict_again n count after (no_level a b ts) heads s = record {
  x = a_no_level;
  head = word_row a_no_level;
  later = after;
  parts = refl;
  one = refl;
  two = record {
    x = (record { side = a; heads = s.3.first_heads }, record { side = b; heads = s.3.second_heads });
    first = s.0;
    second = s.1;
    parts = s.2;
    one = sides_again n count s.0 a b heads s.3;
    two = record {
      x = ts;
      first = s.1;
      second = [];
      parts = sym (append-nil s.1);
      one = s.4;
      two = record { none = refl; same = ap (λ hs. record { verdict = no_level a b ts; heads = hs }) (sym s.3.heads_of) };
    };
  };
}
verdict_again n count after (undecided bound) heads s = absurd s

pub verdict_is : (n count : ℕ) (rows : List Row) (v : VerdictRead) → Headed WordIs (Worded n count) rows v → IsVerdictRead n count rows v
verdict_is n count rows v s =
    let parts : rows ≡ word_row s.x ∷ s.later = s.parts ∙ ap (λ r. r ∷ s.later) s.one in
    subst (λ (rs : List Row). IsVerdictRead n count rs v) (sym parts) (verdict_there n count s.x s.later v s.two)

verdict_back : (n count : ℕ) (rows : List Row) (v : VerdictRead) → IsVerdictRead n count rows v → Headed WordIs (Worded n count) rows v
verdict_back n count rows v s = subst (λ (rs : List Row). Headed WordIs (Worded n count) rs v) (sym s.parts) (verdict_again n count s.after v.verdict v.heads s.told)

pub exact_verdict : (n count : ℕ) → n ≤ 26 → Exact (verdict_after n count) (IsVerdictRead n count)
unfolding verdict_after
exact_verdict n count h =
    exact_as (verdict_after n count) (Headed WordIs (Worded n count)) (IsVerdictRead n count) (verdict_is n count) (verdict_back n count)
    (exact_head (codes "verdict") (λ k. verdict_in k.number k.fields) (λ a. verdict_with n count a.0 a.1) WordIs (Worded n count)
    (λ k w some is e. same_row k (codes "verdict") (word_fields w) is (word_told k.number k.fields w e))
    (λ r k w tells is. (ap (λ (x : Row). x.keyword) is, word_back k.number w k.fields (tells.same ∙ ap (λ (x : Row). x.fields) is)))
    (λ w. exact_worded n count h w))

-- ---- the lines of a command
abbrev pub Reduced : ℕ → List Row → AnswerRead → Type 0
Reduced n = Then (OneRow (IsTupleRow (codes "tuple") n)) (λ t. Then (IsSideRead n (length t.words)) (λ s. Nothing (record { answer = reduce t s.side; heads = s.heads; tree_heads = [] })))

abbrev pub Decided : ℕ → List Row → AnswerRead → Type 0
Decided n =
    Then (OneRow (IsTupleRow (codes "first") n)) (λ s.
    Then (OneRow (IsLikeRow (codes "second") n (length s.words))) (λ t.
    Then (IsVerdictRead n (length s.words)) (λ v. Nothing (record { answer = decide s t v.verdict; heads = v.heads; tree_heads = [] }))))

abbrev pub Stabilised : ℕ → List Row → AnswerRead → Type 0
Stabilised n = Then (OneRow (IsTupleRow (codes "tuple") n)) (Stabilises n)

abbrev pub Untold : List Row → AnswerRead → Type 0
Untold rows a = ⊥

abbrev pub Told : Command → ℕ → List Row → AnswerRead → Type 0
Told commands.Reduce n = Reduced n
Told commands.Decide n = Decided n
Told commands.Straighten n = Untold
Told commands.Stabiliser n = Stabilised n

exact_reduced : (n : ℕ) → n ≤ 26 → Exact (reduced_after n) (Reduced n)
unfolding reduced_after
exact_reduced n h =
    exact_then (tuple_after (codes "tuple") n) (λ t. side_after n (length t.0.words) t.1 >>= λ s. Ok (record { answer = reduce t.0 s.0.side; heads = s.0.heads; tree_heads = [] }, s.1))
    (OneRow (IsTupleRow (codes "tuple") n)) (λ t. Then (IsSideRead n (length t.words)) (λ s. Nothing (record { answer = reduce t s.side; heads = s.heads; tree_heads = [] })))
    (exact_tuple (codes "tuple") n h)
    (λ t. exact_then (side_after n (length t.words)) (λ s. Ok (record { answer = reduce t s.0.side; heads = s.0.heads; tree_heads = [] }, s.1)) (IsSideRead n (length t.words)) (λ s. Nothing (record { answer = reduce t s.side; heads = s.heads; tree_heads = [] }))
    (exact_side n (length t.words) h) (λ s. exact_none (record { answer = reduce t s.side; heads = s.heads; tree_heads = [] })))

exact_decided : (n : ℕ) → n ≤ 26 → Exact (decided_after n) (Decided n)
unfolding decided_after
exact_decided n h =
    exact_then (tuple_after (codes "first") n)
    (λ s. like_after (codes "second") n (length s.0.words) s.1 >>= λ t. verdict_after n (length s.0.words) t.1 >>= λ v. Ok (record { answer = decide s.0 t.0 v.0.verdict; heads = v.0.heads; tree_heads = [] }, v.1))
    (OneRow (IsTupleRow (codes "first") n))
    (λ s. Then (OneRow (IsLikeRow (codes "second") n (length s.words))) (λ t. Then (IsVerdictRead n (length s.words)) (λ v. Nothing (record { answer = decide s t v.verdict; heads = v.heads; tree_heads = [] }))))
    (exact_tuple (codes "first") n h)
    (λ s. exact_then (like_after (codes "second") n (length s.words)) (λ t. verdict_after n (length s.words) t.1 >>= λ v. Ok (record { answer = decide s t.0 v.0.verdict; heads = v.0.heads; tree_heads = [] }, v.1))
    (OneRow (IsLikeRow (codes "second") n (length s.words))) (λ t. Then (IsVerdictRead n (length s.words)) (λ v. Nothing (record { answer = decide s t v.verdict; heads = v.heads; tree_heads = [] })))
    (exact_like (codes "second") n (length s.words) h)
    (λ t. exact_then (verdict_after n (length s.words)) (λ v. Ok (record { answer = decide s t v.0.verdict; heads = v.0.heads; tree_heads = [] }, v.1)) (IsVerdictRead n (length s.words)) (λ v. Nothing (record { answer = decide s t v.verdict; heads = v.heads; tree_heads = [] }))
    (exact_verdict n (length s.words) h) (λ v. exact_none (record { answer = decide s t v.verdict; heads = v.heads; tree_heads = [] }))))

exact_stabilised : (n : ℕ) → n ≤ 26 → Exact (stabilised_after n) (Stabilised n)
unfolding stabilised_after
exact_stabilised n h = exact_then (tuple_after (codes "tuple") n) (λ t. with_stab n t.0 t.1) (OneRow (IsTupleRow (codes "tuple") n)) (Stabilises n) (exact_tuple (codes "tuple") n h) (λ t. exact_stab n t h)

-- answers that can't be checked
exact_untold : Exact {A = AnswerRead} (λ p. Err (errors.NoCertificate 1)) Untold
exact_untold = record { is = λ p q a some e. absurd (cc); back = λ p q a rows told passes. absurd told }

pub exact_told : (c : Command) (n : ℕ) → n ≤ 26 → Exact (answer_with c n) (Told c n)
exact_told commands.Reduce n h = exact_reduced n h
exact_told commands.Decide n h = exact_decided n h
exact_told commands.Straighten n h = exact_untold
exact_told commands.Stabiliser n h = exact_stabilised n h
