-- A flow is read back from the fields of its line: for the law on printed answers.
use Rattle.std.proofs.Common.{◌≡◌, ◌≢◌, ℕ, zero, suc, ◌+◌, ◌-◌, ◌*◌, ◌/◌, ◌%◌, ◌^◌, ◌<◌, ◌≤◌, ◌==◌, leb, ltb, Bool, true, false, List, [], ◌∷◌, ◌++◌, map, get_or, replicate, sym, ap, ◌∙◌, refl, subst, arith, None, Some, inl, inr, length-set, get_or-set_other, ext_get_or, append_assoc, append-nil}
use Rattle.std.specs.Prelude.{◌&&◌, ◌||◌, not, codes, decimal, slice_set}
use Rattle.std.specs.declared.option.Option.{Option}
use Rattle.std.specs.Option.{option_and_then}
use Rattle.std.proofs.lemmas.List.{length-replicate, get_or-replicate, get_or_past}
use Rattle.std.proofs.lemmas.Grind.{get_or-set_at}
use Rattle.std.proofs.lemmas.Bool.{cases_Bool, cases_eq, or_cases, cond-true, cond-false, eqb-true, eqb-false, lt-ltb, false≢true}
use Rattle.std.proofs.lemmas.Bool.Decides.{nat_tests}
use Rattle.wh_words.specs.Flows.{place}
use Rattle.wh_flow.specs.Tables.{pair_count, cell, IsTable, zero_table, with_cell}
use Rattle.wh_lines.specs.Lines.{Field}
use Rattle.wh_lines.specs.Numbers.{number}
use Rattle.wh_fields.specs.Words.{letter_of, letter_text}
use Rattle.wh_fields.specs.FlowFields.{pair_item, pair_fields, flow_row, flow_value, pair_with, pair_in, pair_from, table_from, FlowData, letter_in, small, flow_in, IsFlowOf}
use Rattle.wh_lines.proofs.Equations.{not_more, split_fields, no_fields}
use Rattle.wh_lines.proofs.NumberLaws.{reads_numbers}
use Rattle.wh_fields.proofs.WordLaws.{letter_back}
use Rattle.wh_fields.proofs.ItemRuns.{items_from, pair_items, pair_fields_are}

-- ---- pairs
pub pair_back : (n x y v : ℕ) (bs : List ℕ) → bs ≡ letter_text x ∷ letter_text y ∷ codes ":" ++ decimal v → n ≤ 26 → x < 2 * n → y < 2 * n → x ≢ y → 0 < v → v < 2 ^ 32 →
    pair_in n bs ≡ Some (record { from = x; to = y; amount = v })
unfolding pair_in
pair_back n x y v bs e h l g other some below =
    ap (pair_in n) e
    ∙ ap (option_and_then (λ x. option_and_then (λ y. option_and_then (λ k. pair_with x y k) (number (decimal v))) (letter_of n (letter_text y)))) (letter_back n x h l)
    ∙ ap (option_and_then (λ y. option_and_then (λ k. pair_with x y k) (number (decimal v)))) (letter_back n y h g)
    ∙ ap (option_and_then (λ k. pair_with x y k)) ((reads_numbers (decimal v) v).1 (refl, omega (arith, below)))
    ∙ cond-true (not (x == y) && (ltb 0 v && ltb v (2 ^ 32))) (Some (record { from = x; to = y; amount = v })) None (grind (arith, nat_tests))

rising_pair : (n x y v least : ℕ) (bs : List ℕ) → pair_in n bs ≡ Some (record { from = x; to = y; amount = v }) → least ≤ place x y → pair_from least (pair_in n bs) ≡ Some (record { from = x; to = y; amount = v })
rising_pair n x y v least bs e h = ap (pair_from least) e ∙ cond-true (leb least (place x y)) (Some (record { from = x; to = y; amount = v })) None (grind (arith, nat_tests))

-- ---- tables
-- the table has what the flow f has before a place, and 0 from there on
record IsPart (f : List ℕ) (i : ℕ) (table : List ℕ) (least : ℕ) : Type 0 where
  size : IsTable table
  before : (j : ℕ) → j < i → get_or table j 0 ≡ get_or f j 0
  after : (j : ℕ) → i ≤ j → get_or table j 0 ≡ 0
  least_within : least ≤ i

skip_part : (f : List ℕ) (i k : ℕ) (table : List ℕ) (least : ℕ) → i ≤ k → ((j : ℕ) → i ≤ j → j < k → get_or f j 0 ≡ 0) → IsPart f i table least → IsPart f k table least
skip_part f i k table least h z p = record {
  size = p.size;
  before = λ j l. elim (cases_Bool (ltb j i)) [
    | inl t ↦ p.before j (grind (arith, nat_tests))
    | inr t ↦ (let le : i ≤ j = grind (arith, nat_tests) in p.after j le ∙ sym (z j le l))
  ];
  after = λ j l. p.after j (omega (arith, h, l));
  least_within = omega (arith, h, p.least_within);
}

set_part : (f : List ℕ) (i : ℕ) (table : List ℕ) (least : ℕ) → i < pair_count → IsPart f i table least → IsPart f (i + 1) (slice_set table i (get_or f i 0)) (i + 1)
set_part f i table least h p = record {
  size = length-set table i (get_or f i 0) ∙ p.size;
  before = λ j l. elim (cases_eq j i) [
    | inl e ↦ get_or-set_at table i j (get_or f i 0) 0 e (omega (arith, h, p.size)) ∙ ap (λ k. get_or f k 0) (sym e)
    | inr o ↦ get_or-set_other table i j (get_or f i 0) 0 o ∙ p.before j (omega (arith, l, o))
  ];
  after = λ j l. get_or-set_other table i j (get_or f i 0) 0 (λ e. omega (arith, l, e)) ∙ p.after j (omega (arith, l));
  least_within = omega arith;
}

-- fields that tell a table up to some place, and others
record IsOn (n : ℕ) (f : List ℕ) (k : ℕ) (rest : List (List ℕ)) (table : List ℕ) (least : ℕ) (fs : List Field) : Type 0 where
  later : List Field
  same : map (λ g. g.bytes) later ≡ rest
  new : List ℕ
  new_least : ℕ
  part : IsPart f k new new_least
  read : table_from n table least fs ≡ table_from n new new_least later

-- these fields lead from the table before place i to that before place k
abbrev Leads : ℕ → List ℕ → ℕ → ℕ → List (List ℕ) → Type 0
Leads n f i k ts = (rest : List (List ℕ)) (table : List ℕ) (least : ℕ) (fs : List Field) → IsPart f i table least → map (λ g. g.bytes) fs ≡ ts ++ rest → IsOn n f k rest table least fs

leads_none : (n : ℕ) (f : List ℕ) (i : ℕ) → Leads n f i i []
leads_none n f i rest table least fs p e = record { later = fs; same = e; new = table; new_least = least; part = p; read = refl }

leads_skip : (n : ℕ) (f : List ℕ) (i j k : ℕ) (ts : List (List ℕ)) → j ≤ k → ((m : ℕ) → j ≤ m → m < k → get_or f m 0 ≡ 0) → Leads n f i j ts → Leads n f i k ts
leads_skip n f i j k ts h z leads rest table least fs p e =
    let a = leads rest table least fs p e in
    record { later = a.later; same = a.same; new = a.new; new_least = a.new_least; part = skip_part f j k a.new a.new_least h z a.part; read = a.read }

on_more : (n : ℕ) (f : List ℕ) (k : ℕ) (rest : List (List ℕ)) (table next : List ℕ) (least next_least : ℕ) (fs later : List Field) → table_from n table least fs ≡ table_from n next next_least later →
    IsOn n f k rest next next_least later → IsOn n f k rest table least fs
on_more n f k rest table next least next_least fs later e a = record { later = a.later; same = a.same; new = a.new; new_least = a.new_least; part = a.part; read = e ∙ a.read }

leads_then : (n : ℕ) (f : List ℕ) (i j k : ℕ) (ts us : List (List ℕ)) → Leads n f i j ts → Leads n f j k us → Leads n f i k (ts ++ us)
leads_then n f i j k ts us first second rest table least fs p e =
    let a = first (us ++ rest) table least fs p (e ∙ append_assoc ts us rest) in
    on_more n f k rest table a.new least a.new_least fs a.later a.read (second rest a.new a.new_least a.later a.part a.same)

leads_all : (n : ℕ) (f : List ℕ) (item : ℕ → List (List ℕ)) (at : ℕ → ℕ) (end : ℕ) → ((j : ℕ) → j < end → Leads n f (at j) (at (j + 1)) (item j)) →
    (i k : ℕ) → i + k ≡ end → Leads n f (at i) (at end) (items_from item i k)
unfolding items_from
leads_all n f item at end h i zero e = subst (λ (m : ℕ). Leads n f (at i) (at m) []) (omega (arith, e)) (leads_none n f (at i))
leads_all n f item at end h i (suc k) e =
    leads_then n f (at i) (at (i + 1)) (at end) (item i) (items_from item (i + 1) k) (h i (omega (arith, e))) (leads_all n f item at end h (i + 1) k (omega (arith, e)))

-- ---- the pairs of a flow
cell_zero : (n g : ℕ) (f : List ℕ) (x y : ℕ) → IsFlowOf n g f → x < 52 → y < 52 → (x < 2 * n → y < 2 * n → x ≢ y → ⊥) → cell f x y ≡ 0
cell_zero n g f x y h a b never = elim (cases_eq (cell f x y) 0) [
  | inl e ↦ e
  | inr o ↦ (let r = h.of_rank x y a b (omega (arith, o)) in absurd (never r.0 r.1 r.2))
]

-- no field: nothing flows there
pair_zero : (n g : ℕ) (f : List ℕ) (x y : ℕ) → IsFlowOf n g f → x < 52 → y < 52 → ((x == y) || (cell f x y == 0)) ≡ true → cell f x y ≡ 0
pair_zero n g f x y h a b t = elim (or_cases (x == y) (cell f x y == 0) t) [
  | inl e ↦ cell_zero n g f x y h a b (λ _ _ other. other (eqb-true x y e))
  | inr e ↦ eqb-true (cell f x y) 0 e
]

or_false : (s t : Bool) → (s || t) ≡ false → (s ≡ false) × (t ≡ false)
or_false true t e = absurd (false≢true (sym e))
or_false false t e = (refl, e)

leads_one : (n : ℕ) (f : List ℕ) (x y : ℕ) → n ≤ 26 → x < 2 * n → y < 2 * n → x ≢ y → 0 < cell f x y → cell f x y < 2 ^ 32 →
    Leads n f (place x y) (place x y + 1) ((letter_text x ∷ letter_text y ∷ codes ":" ++ decimal (cell f x y)) ∷ [])
unfolding table_from
leads_one n f x y h l g other some below rest table least fs p e =
    let v = cell f x y in
    let s = split_fields fs (letter_text x ∷ letter_text y ∷ codes ":" ++ decimal v) rest e in
    record {
      later = s.1;
      same = s.4;
      new = with_cell table x y v;
      new_least = place x y + 1;
      part = set_part f (place x y) table least (omega (arith, h, l, g)) p;
      read =
          ap (table_from n table least) s.2
          ∙ ap (option_and_then (λ q. table_from n (with_cell table q.from q.to q.amount) (place q.from q.to + 1) s.1))
          (rising_pair n x y v least s.0.bytes (pair_back n x y v s.0.bytes s.3 h l g other some below) p.least_within);
    }

leads_pair : (n g : ℕ) (f : List ℕ) (x y : ℕ) → n ≤ 26 → IsFlowOf n g f → x < 2 * n → y < 2 * n → Leads n f (place x y) (place x y + 1) (pair_item f x y)
leads_pair n g f x y h i l m =
    let w = letter_text x ∷ letter_text y ∷ codes ":" ++ decimal (cell f x y) in
    let a : x < 52 = omega (arith, h, l) in
    let b : y < 52 = omega (arith, h, m) in
    elim (cases_Bool ((x == y) || (cell f x y == 0))) [
      | inl t ↦ subst (Leads n f (place x y) (place x y + 1)) (sym (cond-true ((x == y) || (cell f x y == 0)) [] (w ∷ []) t))
          (leads_skip n f (place x y) (place x y) (place x y + 1) [] (omega arith) (λ j low high. ap (λ k. get_or f k 0) (omega (arith, low, high)) ∙ pair_zero n g f x y i a b t) (leads_none n f (place x y)))
      | inr t ↦ (let both = or_false (x == y) (cell f x y == 0) t in
          subst (Leads n f (place x y) (place x y + 1)) (sym (cond-false ((x == y) || (cell f x y == 0)) [] (w ∷ []) t))
          (leads_one n f x y h l m (eqb-false x y both.0) (omega (arith, eqb-false (cell f x y) 0 both.1)) (i.small x y a b)))
    ]

leads_row : (n g : ℕ) (f : List ℕ) (x : ℕ) → n ≤ 26 → IsFlowOf n g f → x < 2 * n → Leads n f (52 * x) (52 * (x + 1)) (items_from (pair_item f x) 0 (2 * n))
leads_row n g f x h i l =
    let a : x < 52 = omega (arith, h, l) in
    leads_skip n f (52 * x) (52 * x + 2 * n) (52 * (x + 1)) (items_from (pair_item f x) 0 (2 * n)) (omega (arith, h))
    (λ j low high. ap (λ k. get_or f k 0) (omega (arith, low)) ∙ cell_zero n g f x (j - 52 * x) i a (omega (arith, low, high)) (λ _ in_rank _. omega (arith, low, in_rank)))
    (subst (λ (k : ℕ). Leads n f k (52 * x + 2 * n) (items_from (pair_item f x) 0 (2 * n))) (omega arith)
    (leads_all n f (pair_item f x) (λ y. place x y) (2 * n)
    (λ y m. subst (λ (k : ℕ). Leads n f (place x y) k (pair_item f x y)) (omega arith) (leads_pair n g f x y h i l m)) 0 (2 * n) (omega arith)))

leads_table : (n g : ℕ) (f : List ℕ) → n ≤ 26 → IsFlowOf n g f → Leads n f 0 pair_count (pair_items n f)
leads_table n g f h i =
    leads_skip n f 0 (52 * (2 * n)) pair_count (pair_items n f) (omega (arith, h))
    (λ j low high. ap (λ k. get_or f k 0) (omega arith) ∙ cell_zero n g f (j / 52) (j % 52) i (omega (arith, high)) (omega arith) (λ in_rank _ _. omega (arith, low, in_rank)))
    (leads_all n f (λ x. items_from (pair_item f x) 0 (2 * n)) (λ x. 52 * x) (2 * n) (λ x l. leads_row n g f x h i l) 0 (2 * n) (omega arith))

-- ---- a flow
zeros : (k j : ℕ) → ◌≡◌ {A = ℕ} (get_or (replicate k 0) j 0) 0
zeros k j = elim (cases_Bool (ltb j k)) [
  | inl t ↦ get_or-replicate k j 0 0 (grind (arith, nat_tests))
  | inr t ↦ get_or_past (replicate k 0) j 0 (omega (arith, not_more j k t, length-replicate {A = ℕ} k 0))
]

table_back : (n g : ℕ) (f : List ℕ) (fs : List Field) → n ≤ 26 → IsFlowOf n g f → map (λ g. g.bytes) fs ≡ pair_items n f → table_from n zero_table 0 fs ≡ Some f
unfolding table_from
table_back n g f fs h i e =
    let start : IsPart f 0 zero_table 0 = record { size = length-replicate {A = ℕ} pair_count 0; before = λ j l. absurd (omega (arith, l)); after = λ j l. zeros pair_count j; least_within = omega arith } in
    let a = leads_table n g f h i [] zero_table 0 fs start (e ∙ sym (append-nil (pair_items n f))) in
    a.read ∙ ap (table_from n a.new a.new_least) (no_fields a.later a.same)
    ∙ ap (λ t. Some t) (ext_get_or 0 a.new f (a.part.size ∙ sym i.table) (λ j l. a.part.before j (omega (arith, l, a.part.size))))

flow_from : (n x v : ℕ) (f : List ℕ) (letter value : Field) (fs : List Field) → letter_in n letter.bytes ≡ Some x → small (number value.bytes) ≡ Some v → table_from n zero_table 0 fs ≡ Some f →
    flow_in n (letter ∷ value ∷ fs) ≡ Some (record { head = (x, v); table = f })
unfolding flow_in
flow_from n x v f letter value fs a b c =
    let told : ℕ → ℕ → Option (List ℕ) → Option FlowData = λ x v. option_and_then (λ table. Some (record { head = (x, v); table = table })) in
    ap (option_and_then (λ x. option_and_then (λ v. told x v (table_from n zero_table 0 fs)) (small (number value.bytes)))) a
    ∙ ap (option_and_then (λ v. told x v (table_from n zero_table 0 fs))) b
    ∙ ap (told x v) c

pub flow_back : (n g : ℕ) (f : List ℕ) (fs : List Field) → n ≤ 26 → g < n → IsFlowOf n g f → map (λ g. g.bytes) fs ≡ (flow_row n (2 * g) f).fields →
    flow_in n fs ≡ Some (record { head = (2 * g, flow_value f (2 * g)); table = f })
flow_back n g f fs h l i e =
    let v = flow_value f (2 * g) in
    let s = split_fields fs (letter_text (2 * g) ∷ []) (decimal v ∷ pair_fields n f) e in
    let t = split_fields s.1 (decimal v) (pair_fields n f) s.4 in
    let below : v < 2 ^ 32 = omega (arith, i.value.least, i.value.below) in
    ap (flow_in n) (s.2 ∙ ap (λ gs. s.0 ∷ gs) t.2)
    ∙ flow_from n (2 * g) v f s.0 t.0 t.1 (ap (letter_in n) s.3 ∙ letter_back n (2 * g) h (omega (arith, l)))
    (ap small ((reads_numbers t.0.bytes v).1 (t.3, omega (arith, below))) ∙ cond-true (ltb v (2 ^ 32)) (Some v) None (lt-ltb v (2 ^ 32) below))
    (table_back n g f t.1 h i (t.4 ∙ pair_fields_are n f))
