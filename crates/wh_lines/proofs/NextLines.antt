-- What the next line of a reading is: for the reader, and for all that reads.
use Rattle.std.proofs.Common.{◌≡◌, ℕ, Bool, true, false, cond, List, [], ◌∷◌, ◌++◌, refl, sym, ap, ◌∙◌, subst, None, Some, Result, Ok, Err}
use Rattle.std.specs.declared.option.Option.{Option}
use Rattle.wh_lines.specs.declared.read_error.ReadError.{ReadError}
use Rattle.wh_lines.specs.declared.read_error.ReadError.TheVariants as errors
use Rattle.wh_lines.specs.declared.reader.Next.{Next}
use Rattle.wh_lines.specs.declared.reader.Next.TheVariants as nexts
use Rattle.wh_lines.specs.Lines.{lines, are}
use Rattle.wh_lines.specs.Readings.{Refuses, Gives}
use Rattle.wh_lines.specs.Scans.{first_of}
use Rattle.wh_lines.specs.KeptLines.{Kept, Rest, rest}
use Rattle.wh_lines.specs.KeptLines.Rest.{line, bad_byte, end}
use Rattle.wh_lines.specs.LineReadings.{Reading, Reads, next_of, next, line_of, line_after, end_of, end_after}
use Rattle.wh_lines.proofs.Equations.{ok_is, if_ok, are_is, are_back}

-- Where reading is behind line k.
abbrev pub behind : Reading → Kept → Rest → Reading
behind p k later = record { taken = p.taken ++ k.number ∷ []; rest = later }

-- ---- from the first line
fails_by : (taken : List ℕ) (r : Rest) (e : ReadError) → first_of r ≡ Err e → next_of taken r ≡ Err e
unfolding first_of
fails_by taken (line k later) e h = absurd (cc)
fails_by taken (bad_byte l c) e h = (cc)
fails_by taken (end l) e h = absurd (cc)

pub next_fails : (p : Reading) (e : ReadError) → Refuses (first_of p.rest) e → Refuses (next p) e
unfolding next
next_fails p e h = λ known. fails_by p.taken p.rest e (h known)

line_by : (taken : List ℕ) (r : Rest) (k : Kept) (later : Rest) → first_of r ≡ Ok (Some k, later) → r ≡ line k later
unfolding first_of
line_by taken (line j later) k q h =
    let same = ok_is (Some j, later) (Some k, q) h in
    let kept : ◌≡◌ {A = Option Kept} (Some j) (Some k) = ap (λ (x : Option Kept × Rest). x.0) same in
    let is : j ≡ k = (cc) in
    ap (λ x. line x later) is ∙ ap (λ (x : Option Kept × Rest). line k x.1) same
line_by taken (bad_byte l c) k q h = absurd (cc)
line_by taken (end l) k q h =
    let none : ◌≡◌ {A = Option Kept} None (Some k) = ap (λ (x : Option Kept × Rest). x.0) (ok_is (None, end l) (Some k, q) h) in
    absurd (cc)

pub next_found : (p : Reading) (k : Kept) (later : Rest) → first_of p.rest ≡ Ok (Some k, later) → next p ≡ Ok (nexts.Line k, behind p k later)
unfolding next
next_found p k later h = ap (next_of p.taken) (line_by p.taken p.rest k later h)

end_by : (r q : Rest) → first_of r ≡ Ok (None, q) → r ≡ q
unfolding first_of
end_by (line k later) q h =
    let none : ◌≡◌ {A = Option Kept} (Some k) None = ap (λ (x : Option Kept × Rest). x.0) (ok_is (Some k, later) (None, q) h) in
    absurd (cc)
end_by (bad_byte l c) q h = absurd (cc)
end_by (end l) q h = ap (λ (x : Option Kept × Rest). x.1) (ok_is (None, end l) (None, q) h)

pub next_ended : (p : Reading) (l : ℕ) (bytes : List ℕ) → first_of p.rest ≡ Ok (None, rest l (lines bytes)) → bytes ≡ [] → next p ≡ Ok (nexts.End l, p)
unfolding next rest
next_ended p l bytes h nil =
    let is : p.rest ≡ end l = end_by p.rest (rest l (lines bytes)) h ∙ ap (λ b. rest l (lines b)) nil in
    ap (next_of p.taken) is ∙ ap (λ r. Ok (nexts.End l, record { taken = p.taken; rest = r })) (sym is)

-- ---- what the next line tells of what is left
line_is_by : (taken : List ℕ) (r : Rest) (k : Kept) (q : Reading) → next_of taken r ≡ Ok (nexts.Line k, q) → (r ≡ line k q.rest) × (q.taken ≡ taken ++ k.number ∷ [])
line_is_by taken (line j later) k q h =
    let both = ok_is (nexts.Line j, record { taken = taken ++ j.number ∷ []; rest = later }) (nexts.Line k, q) h in
    let next : nexts.Line j ≡ nexts.Line k = ap (λ (x : Next × Reading). x.0) both in
    let same : j ≡ k = (cc) in
    let place : record { taken = taken ++ j.number ∷ []; rest = later } ≡ q = ap (λ (x : Next × Reading). x.1) both in
    (ap (λ x. line x later) same ∙ ap (λ (x : Reading). line k x.rest) place, sym (ap (λ (x : Reading). x.taken) place) ∙ ap (λ (x : Kept). taken ++ x.number ∷ []) same)
line_is_by taken (bad_byte l c) k q h = absurd (cc)
line_is_by taken (end l) k q h =
    let next : nexts.End l ≡ nexts.Line k = ap (λ (x : Next × Reading). x.0) (ok_is (nexts.End l, record { taken = taken; rest = end l }) (nexts.Line k, q) h) in
    absurd (cc)

pub next_is_line : (p : Reading) (k : Kept) (q : Reading) → next p ≡ Ok (nexts.Line k, q) → (p.rest ≡ line k q.rest) × (q.taken ≡ p.taken ++ k.number ∷ [])
unfolding next
next_is_line p k q h = line_is_by p.taken p.rest k q h

end_is_by : (taken : List ℕ) (r : Rest) (l : ℕ) (q : Reading) → next_of taken r ≡ Ok (nexts.End l, q) → (r ≡ end l) × (q ≡ record { taken = taken; rest = end l })
end_is_by taken (line j later) l q h =
    let next : nexts.Line j ≡ nexts.End l = ap (λ (x : Next × Reading). x.0) (ok_is (nexts.Line j, record { taken = taken ++ j.number ∷ []; rest = later }) (nexts.End l, q) h) in
    absurd (cc)
end_is_by taken (bad_byte m c) l q h = absurd (cc)
end_is_by taken (end m) l q h =
    let both = ok_is (nexts.End m, record { taken = taken; rest = end m }) (nexts.End l, q) h in
    let next : nexts.End m ≡ nexts.End l = ap (λ (x : Next × Reading). x.0) both in
    let same : m ≡ l = (cc) in
    let place : record { taken = taken; rest = end m } ≡ q = ap (λ (x : Next × Reading). x.1) both in
    (ap (λ x. end x) same, sym place ∙ ap (λ x. record { taken = taken; rest = end x }) same)

pub next_is_end : (p : Reading) (l : ℕ) (q : Reading) → next p ≡ Ok (nexts.End l, q) → (p.rest ≡ end l) × (q ≡ record { taken = p.taken; rest = end l })
unfolding next
next_is_end p l q h = end_is_by p.taken p.rest l q h

bad_by : (taken : List ℕ) (r : Rest) (e : ReadError) → next_of taken r ≡ Err e → (l : ℕ) × (c : ℕ) × (r ≡ bad_byte l c) × (e ≡ errors.BadByte l c)
bad_by taken (line k later) e h = absurd (cc)
bad_by taken (bad_byte l c) e h = (l, c, refl, (cc))
bad_by taken (end l) e h = absurd (cc)

pub next_is_bad : (p : Reading) (e : ReadError) → next p ≡ Err e → (l : ℕ) × (c : ℕ) × (p.rest ≡ bad_byte l c) × (e ≡ errors.BadByte l c)
unfolding next
next_is_bad p e h = bad_by p.taken p.rest e h

-- ---- a line with a keyword
pub line_fails : (keyword : List ℕ) (p : Reading) (e : ReadError) → Refuses (next p) e → Refuses (line_after keyword p) e
unfolding line_after
line_fails keyword p e h = λ known.
    let bad = next_is_bad p e (h known) in
    ap (line_of keyword p.taken) bad.2 ∙ ap (λ x. Err x) (sym bad.3)

pub line_found : (keyword : List ℕ) (p : Reading) (k : Kept) (q : Reading) → next p ≡ Ok (nexts.Line k, q) → line_after keyword p ≡ cond (are k.keyword keyword) (Ok (k, q)) (Err (errors.BadLine k.number))
unfolding line_after
line_found keyword p k q h =
    let is = next_is_line p k q h in
    ap (line_of keyword p.taken) is.0 ∙ ap (λ ns. cond (are k.keyword keyword) (Ok (k, record { taken = ns; rest = q.rest })) (Err (errors.BadLine k.number))) (sym is.1)

pub line_missing : (keyword : List ℕ) (p : Reading) (l : ℕ) (q : Reading) → next p ≡ Ok (nexts.End l, q) → line_after keyword p ≡ Err (errors.BadLine l)
unfolding line_after
line_missing keyword p l q h = ap (line_of keyword p.taken) (next_is_end p l q h).0

-- ---- the end
pub end_fails : (p : Reading) (e : ReadError) → Refuses (next p) e → Refuses (end_after p) e
unfolding end_after
end_fails p e h = λ known.
    let bad = next_is_bad p e (h known) in
    ap (end_of p.taken) bad.2 ∙ ap (λ x. Err x) (sym bad.3)

pub end_missed : (p : Reading) (k : Kept) (q : Reading) → next p ≡ Ok (nexts.Line k, q) → end_after p ≡ Err (errors.BadLine k.number)
unfolding end_after
end_missed p k q h = ap (end_of p.taken) (next_is_line p k q h).0

pub end_found : (p : Reading) (l : ℕ) (q : Reading) → next p ≡ Ok (nexts.End l, q) → end_after p ≡ Ok (tt, q)
unfolding end_after
end_found p l q h = let is = next_is_end p l q h in ap (end_of p.taken) is.0 ∙ ap (λ x. Ok (tt, x)) (sym is.1)

-- ---- what was read
told_by : (keyword taken : List ℕ) (r : Rest) (k : Kept × Reading) → line_of keyword taken r ≡ Ok k → (r ≡ line k.0 k.1.rest) × (k.1.taken ≡ taken ++ k.0.number ∷ []) × (k.0.keyword ≡ keyword)
told_by keyword taken (line j later) k h =
    let p = if_ok (are j.keyword keyword) (errors.BadLine j.number) (Ok (j, record { taken = taken ++ j.number ∷ []; rest = later })) k h in
    let same : (j, record { taken = taken ++ j.number ∷ []; rest = later }) ≡ k = ok_is (j, record { taken = taken ++ j.number ∷ []; rest = later }) k p.1 in
    (ap (λ (x : Kept × Reading). line x.0 x.1.rest) same, sym (ap (λ (x : Kept × Reading). x.1.taken) same) ∙ ap (λ (x : Kept × Reading). taken ++ x.0.number ∷ []) same, sym (ap (λ (x : Kept × Reading). x.0.keyword) same) ∙ are_is j.keyword keyword p.0)
told_by keyword taken (bad_byte l c) k h = absurd (cc)
told_by keyword taken (end l) k h = absurd (cc)

pub line_told : (keyword : List ℕ) (p : Reading) (k : Kept × Reading) → line_after keyword p ≡ Ok k → (p.rest ≡ line k.0 k.1.rest) × (k.1.taken ≡ p.taken ++ k.0.number ∷ []) × (k.0.keyword ≡ keyword)
unfolding line_after
line_told keyword p k h = told_by keyword p.taken p.rest k h

-- a line that stands there is read
pub line_there : (keyword : List ℕ) (p : Reading) (k : Kept) (later : Rest) → p.rest ≡ line k later → k.keyword ≡ keyword → line_after keyword p ≡ Ok (k, behind p k later)
unfolding line_after
line_there keyword p k later e h =
    ap (line_of keyword p.taken) e ∙ ap (λ t. cond t (Ok (k, behind p k later)) (Err (errors.BadLine k.number))) (are_back k.keyword keyword h)

ended_by : (taken : List ℕ) (r : Rest) (q : Unit {0} × Reading) → end_of taken r ≡ Ok q → (l : ℕ) × (r ≡ end l) × (q.1 ≡ record { taken = taken; rest = end l })
ended_by taken (line k later) q h = absurd (cc)
ended_by taken (bad_byte l c) q h = absurd (cc)
ended_by taken (end l) q h = (l, refl, sym (ap (λ (x : Unit {0} × Reading). x.1) (ok_is (tt, record { taken = taken; rest = end l }) q h)))

pub end_told : (p : Reading) (q : Unit {0} × Reading) → end_after p ≡ Ok q → (l : ℕ) × (p.rest ≡ end l) × (q.1 ≡ record { taken = p.taken; rest = end l })
unfolding end_after
end_told p q h = ended_by p.taken p.rest q h

-- ---- what the code returns
keyword_by : (t : Bool) (k : Kept) (q : Reading) (d : ReadError) (r : Result Kept ReadError) → Gives (λ k. k) r (cond t (Ok k) (Err d)) → Reads (λ k. k) r q (cond t (Ok (k, q)) (Err d))
keyword_by true k q d (Ok x) g = ap (λ (y : Kept). Ok (y, q)) (ok_is k x g)
keyword_by true k q d (Err e) g = λ known. let never = g known in absurd (cc)
keyword_by false k q d (Ok x) g = absurd (cc)
keyword_by false k q d (Err e) g = λ known. let same = g known in (cc)

pub keyword_reads : (keyword : List ℕ) (p : Reading) (k : Kept) (q : Reading) (r : Result Kept ReadError) → next p ≡ Ok (nexts.Line k, q) →
    Gives (λ k. k) r (cond (are k.keyword keyword) (Ok k) (Err (errors.BadLine k.number))) → Reads (λ k. k) r q (line_after keyword p)
keyword_reads keyword p k q r h g = subst (Reads (λ k. k) r q) (sym (line_found keyword p k q h)) (keyword_by (are k.keyword keyword) k q (errors.BadLine k.number) r g)
