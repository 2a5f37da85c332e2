-- Reading the pairs of a flow one after another: for the loop over the fields of a `flow` line.
use Rattle.std.proofs.Common.{◌≡◌, ℕ, ◌+◌, ◌<◌, ◌≤◌, List, length, get_or, drop, sym, ap, ◌∙◌, None, Some}
use Rattle.std.specs.Option.{option_and_then}
use Rattle.std.proofs.lemmas.List.{drop_more, drop_all}
use Rattle.wh_words.specs.Flows.{place}
use Rattle.wh_lines.specs.Lines.{Field}
use Rattle.wh_fields.specs.FlowFields.{Pair, pair_in, pair_from, table_from}
use Rattle.wh_flow.specs.Tables.{zero_table, with_cell}

table_step : (n : ℕ) (table : List ℕ) (least : ℕ) (fs : List Field) (i : ℕ) (f : Field) → i < length fs → f ≡ get_or fs i f →
    table_from n table least (drop i fs) ≡ option_and_then (λ p. table_from n (with_cell table p.from p.to p.amount) (place p.from p.to + 1) (drop (i + 1) fs)) (pair_from least (pair_in n f.bytes))
unfolding table_from
table_step n table least fs i f l is =
    ap (table_from n table least) (drop_more fs i f l)
    ∙ ap (λ g. option_and_then (λ p. table_from n (with_cell table p.from p.to p.amount) (place p.from p.to + 1) (drop (i + 1) fs)) (pair_from least (pair_in n g.bytes))) (sym is)

pub table_more : (n : ℕ) (table : List ℕ) (least : ℕ) (fs : List Field) (i : ℕ) (f : Field) (p : Pair) → i < length fs → f ≡ get_or fs i f → Some p ≡ pair_from least (pair_in n f.bytes) →
    table_from n table least (drop i fs) ≡ table_from n zero_table 0 fs →
    table_from n (with_cell table p.from p.to p.amount) (place p.from p.to + 1) (drop (i + 1) fs) ≡ table_from n zero_table 0 fs
table_more n table least fs i f p l is e h =
    ap (option_and_then (λ q. table_from n (with_cell table q.from q.to q.amount) (place q.from q.to + 1) (drop (i + 1) fs))) e ∙ sym (table_step n table least fs i f l is) ∙ h

pub table_none : (n : ℕ) (table : List ℕ) (least : ℕ) (fs : List Field) (i : ℕ) (f : Field) → i < length fs → f ≡ get_or fs i f → None ≡ pair_from least (pair_in n f.bytes) →
    table_from n table least (drop i fs) ≡ table_from n zero_table 0 fs → None ≡ table_from n zero_table 0 fs
table_none n table least fs i f l is e h =
    ap (option_and_then (λ q. table_from n (with_cell table q.from q.to q.amount) (place q.from q.to + 1) (drop (i + 1) fs))) e ∙ sym (table_step n table least fs i f l is) ∙ h

pub table_end : (n : ℕ) (table : List ℕ) (least : ℕ) (fs : List Field) (i : ℕ) → length fs ≤ i → table_from n table least (drop i fs) ≡ table_from n zero_table 0 fs →
    Some table ≡ table_from n zero_table 0 fs
unfolding table_from
table_end n table least fs i l h = sym (ap (table_from n table least) (drop_all i fs l)) ∙ h
