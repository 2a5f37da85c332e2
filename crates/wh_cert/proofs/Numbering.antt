-- What is asked is asked of lines that there are.
use Rattle.std.proofs.Common.{◌≡◌, ℕ, zero, suc, ◌+◌, ◌*◌, ◌<◌, ◌≤◌, List, [], ◌∷◌, ◌++◌, length, get_or, refl, sym, subst, arith, Option, Some, None, Result, Err}
use Rattle.std.specs.List.{All}
use Rattle.std.proofs.lemmas.List.Elements.{All-nil, All-cons, All-append, All-contains, Contains-append_right}
use Rattle.wh_words.specs.Tuples.{TupleData}
use Rattle.wh_data.specs.declared.answer.Loop.{Loop}
use Rattle.wh_data.specs.RootPlaces.{root_place}
use Rattle.wh_data.specs.AnswerData.{SideData, VerdictData, PartsData, StabVerdictData, AnswerData, CertificateData}
use Rattle.wh_data.specs.AnswerData.StabVerdictData.{done, stopped}
use Rattle.wh_data.specs.AnswerData.VerdictData.{yes, no_length, no_level, undecided}
use Rattle.wh_data.specs.AnswerData.AnswerData.{reduce, decide, straighten, stabiliser}
use Rattle.wh_data.specs.Numberings.{head_lines, side_lines, IsSideOfRank, IsVerdictOfRank, IsAnswerOfOneRank, IsStabOfRank, IsNumbered, verdict_lines, tree_lines, parts_lines, stab_lines, answer_lines}
use Rattle.wh_cert.specs.declared.checked.Rule.{Rule}
use Rattle.wh_cert.specs.Demands.{Demand, Placed, fit_on_the_way, moves_carry, trace_ends, lengths_differ, lengths_agree, has_root, rises, has_height, is_absent, is_closed, is_tree_edge, counts_generators, is_generator, has_steps, leads_back, has_short_images, is_identity, has_numbers, tuple_at, asked_below, trace_asked, flow_asked, flows_asked, side_asked, sides_asked, absent_asked, at_asked, level_asked, verdict_asked, tree_vertex, tree_edge_asked, tree_asked, generator_asked, generators_asked, loop_at, loop_asked, relator_asked, relators_asked, parts_asked, stab_asked, asked}
use Rattle.wh_cert.specs.declared.stop.Stop.{Stop}
use Rattle.wh_cert.specs.declared.stop.Stop.TheVariants.{Broken}
use Rattle.wh_cert.specs.Checks.{IsFirstBroken}
use Rattle.wh_cert.specs.Judged.{Judges}

-- All demands are on lines before the line of number n.
abbrev pub AreBefore : ℕ → List Placed → Type 0
AreBefore n ds = All (λ d. d.0 < n) ds

no_lines : (n : ℕ) → AreBefore n []
no_lines n = All-nil (λ (d : Placed). d.0 < n)

a_line : (n : ℕ) (d : Placed) (ds : List Placed) → d.0 < n → AreBefore n ds → AreBefore n (d ∷ ds)
a_line n d ds l h = All-cons (λ (e : Placed). e.0 < n) d ds l h

one_line : (n place : ℕ) (d : Demand) → place < n → AreBefore n ((place, d) ∷ [])
one_line n place d l = a_line n (place, d) [] l (no_lines n)

lines_then : (n : ℕ) (ds es : List Placed) → AreBefore n ds → AreBefore n es → AreBefore n (ds ++ es)
lines_then n ds es h k = All-append (λ (e : Placed). e.0 < n) ds es h k

-- The line of a first demand that isn't met is one of them.
pub broken_before : (n : ℕ) (ds : List Placed) (place : ℕ) (rule : Rule) → AreBefore n ds → IsFirstBroken ds place rule → place < n
broken_before n ds place rule h first =
    All-contains (λ (e : Placed). e.0 < n) (first.before ++ (place, first.broken) ∷ first.after) (place, first.broken) (subst (AreBefore n) first.parts h)
    (Contains-append_right first.before ((place, first.broken) ∷ first.after) (place, first.broken) (0, omega arith, refl))

below_before : (n : ℕ) (asks : ℕ → List Placed) (m : ℕ) → ((k : ℕ) → k < m → AreBefore n (asks k)) → AreBefore n (asked_below asks m)
unfolding asked_below
below_before n asks zero h = no_lines n
below_before n asks (suc m) h = lines_then n (asked_below asks m) (asks m) (below_before n asks m (λ k l. h k (omega (arith, l)))) (h m (omega arith))

trace_before : (n place : ℕ) (t : TupleData) (s : SideData) → place + 1 < n → AreBefore n (trace_asked place t s)
trace_before n place t s l =
    a_line n (place, fit_on_the_way t s.trace) ((place + 1, trace_ends t s.trace s.end) ∷ []) (omega (arith, l)) (a_line n (place + 1, trace_ends t s.trace s.end) [] l (no_lines n))

flows_before : (n place from : ℕ) (heads : List (ℕ × ℕ)) (s : SideData) → place + s.end.rank ≤ n → AreBefore n (flows_asked place from heads s)
flows_before n place from heads s l =
    below_before n (flow_asked place from heads s) s.end.rank (λ g h. All-cons (λ (e : Placed). e.0 < n) _ [] (omega (arith, l, h)) (no_lines n))

side_before : (n place : ℕ) (heads : List (ℕ × ℕ)) (t : TupleData) (s : SideData) → IsSideOfRank t.rank s → place + side_lines t.rank ≤ n → AreBefore n (side_asked place heads t s)
side_before n place heads t s is l =
    lines_then n (trace_asked place t s) (flows_asked (place + 2) 0 heads s) (trace_before n place t s (omega (arith, l))) (flows_before n (place + 2) 0 heads s (omega (arith, l, is.end)))

sides_before : (n place r : ℕ) (heads : List (ℕ × ℕ)) (s t : TupleData) (a b : SideData) (lengths : TupleData → TupleData → Demand) → s.rank ≡ r → IsSideOfRank r a → IsSideOfRank r b →
    place + 2 * side_lines r ≤ n → AreBefore n (sides_asked place r heads s t a b lengths)
sides_before n place r heads s t a b lengths same left right l =
    lines_then n (side_asked place heads s a)
    (trace_asked (place + side_lines r) t b ++ ((place + side_lines r + 1, lengths a.end b.end) ∷ flows_asked (place + side_lines r + 2) r heads b))
    (side_before n place heads s a (subst (λ (k : ℕ). IsSideOfRank k a) (sym same) left) (omega (arith, l, same)))
    (lines_then n (trace_asked (place + side_lines r) t b) ((place + side_lines r + 1, lengths a.end b.end) ∷ flows_asked (place + side_lines r + 2) r heads b)
    (trace_before n (place + side_lines r) t b (omega (arith, l)))
    (a_line n (place + side_lines r + 1, lengths a.end b.end) (flows_asked (place + side_lines r + 2) r heads b) (omega (arith, l))
    (flows_before n (place + side_lines r + 2) r heads b (omega (arith, l, right.end)))))

absent_before : (n place : ℕ) (second : Option TupleData) (t : TupleData) → place < n → AreBefore n (absent_asked place second t)
absent_before n place None t l = no_lines n
absent_before n place (Some second) t l = one_line n place (is_absent second t) l

at_before : (n place : ℕ) (root : TupleData) (second : Option TupleData) (ts : List TupleData) (k : ℕ) → place + k < n → AreBefore n (at_asked place root second ts k)
at_before n place root second ts k l =
    let t = tuple_at ts k in
    let last = absent_asked (place + k) second t ++ (place + k, is_closed ts t) ∷ [] in
    a_line n (place + k, rises ts k) ((place + k, has_height root t) ∷ last) l (a_line n (place + k, has_height root t) last l
    (lines_then n (absent_asked (place + k) second t) ((place + k, is_closed ts t) ∷ []) (absent_before n (place + k) second t l) (one_line n (place + k) (is_closed ts t) l)))

level_before : (n place : ℕ) (root : TupleData) (second : Option TupleData) (ts : List TupleData) → place + 1 + length ts ≤ n → AreBefore n (level_asked place root second ts)
level_before n place root second ts l =
    a_line n (place, has_root root ts) (asked_below (at_asked (place + 1) root second ts) (length ts)) (omega (arith, l))
    (below_before n (at_asked (place + 1) root second ts) (length ts) (λ k h. at_before n (place + 1) root second ts k (omega (arith, l, h))))

verdict_before : (n place : ℕ) (heads : List (ℕ × ℕ)) (s t : TupleData) (v : VerdictData) → IsVerdictOfRank s.rank v → place + verdict_lines s.rank v < n → AreBefore n (verdict_asked place heads s t v)
verdict_before n place heads s t (yes ms) is l =
    a_line n (place, fit_on_the_way s ms) ((place, moves_carry s ms t) ∷ []) (omega (arith, l)) (a_line n (place, moves_carry s ms t) [] (omega (arith, l)) (no_lines n))
verdict_before n place heads s t (no_length a b) is l = sides_before n place s.rank heads s t a b lengths_differ refl is.0 is.1 (omega (arith, l))
verdict_before n place heads s t (no_level a b ts) is l =
    lines_then n (sides_asked place s.rank heads s t a b lengths_agree) (level_asked (place + 2 * side_lines s.rank) a.end (Some b.end) ts)
    (sides_before n place s.rank heads s t a b lengths_agree refl is.0 is.1 (omega (arith, l)))
    (level_before n (place + 2 * side_lines s.rank) a.end (Some b.end) ts (omega (arith, l)))
verdict_before n place heads s t (undecided bound) is l = no_lines n

-- ---- stabilisers
tree_before : (n place root : ℕ) (heads : List ℕ) (p : PartsData) → place + tree_lines p ≤ n → AreBefore n (tree_asked place heads root p)
tree_before n place root heads p l =
    below_before n (tree_edge_asked place heads root p) (tree_lines p) (λ j h. one_line n (place + j) (is_tree_edge p (get_or heads j 0) (tree_vertex root j)) (omega (arith, l, h)))

generators_before : (n place : ℕ) (p : PartsData) → place + 1 + length p.generators ≤ n → AreBefore n (generators_asked place p)
generators_before n place p l =
    a_line n (place, counts_generators p) (asked_below (generator_asked (place + 1) p) (length p.generators)) (omega (arith, l))
    (below_before n (generator_asked (place + 1) p) (length p.generators) (λ k h. one_line n (place + 1 + k) (is_generator p k) (omega (arith, l, h))))

loop_before : (n place rank : ℕ) (p : PartsData) (r : Loop) → place < n → AreBefore n (loop_asked place rank p r)
loop_before n place rank p r l =
    let numbers : AreBefore n ((place, has_numbers p r) ∷ []) = one_line n place (has_numbers p r) l in
    let identity : AreBefore n ((place, is_identity rank r) ∷ (place, has_numbers p r) ∷ []) = a_line n (place, is_identity rank r) ((place, has_numbers p r) ∷ []) l numbers in
    let wide = a_line n (place, has_short_images rank r) ((place, is_identity rank r) ∷ (place, has_numbers p r) ∷ []) l identity in
    a_line n (place, has_steps p r) ((place, leads_back p r) ∷ (place, has_short_images rank r) ∷ (place, is_identity rank r) ∷ (place, has_numbers p r) ∷ []) l
    (a_line n (place, leads_back p r) ((place, has_short_images rank r) ∷ (place, is_identity rank r) ∷ (place, has_numbers p r) ∷ []) l wide)

relators_before : (n place rank : ℕ) (p : PartsData) → place + length p.relators ≤ n → AreBefore n (relators_asked place rank p)
relators_before n place rank p l = below_before n (relator_asked place rank p) (length p.relators) (λ k h. loop_before n (place + k) rank p (loop_at p.relators k) (omega (arith, l, h)))

parts_before : (n place : ℕ) (heads : List ℕ) (end : TupleData) (p : PartsData) → place + parts_lines p ≤ n → AreBefore n (parts_asked place heads end p)
parts_before n place heads end p l =
    let tree : ℕ = place + 1 + length p.vertices in
    let generators : ℕ = place + 1 + length p.vertices + tree_lines p in
    let relators : ℕ = place + 3 + length p.vertices + tree_lines p + length p.generators in
    let root : ℕ = root_place end p.vertices in
    lines_then n (level_asked place end None p.vertices) (tree_asked tree heads root p ++ (generators_asked generators p ++ relators_asked relators end.rank p)) (level_before n place end None p.vertices (omega (arith, l)))
    (lines_then n (tree_asked tree heads root p) (generators_asked generators p ++ relators_asked relators end.rank p) (tree_before n tree root heads p (omega (arith, l)))
    (lines_then n (generators_asked generators p) (relators_asked relators end.rank p) (generators_before n generators p (omega (arith, l))) (relators_before n relators end.rank p (omega (arith, l)))))

stab_before : (n place : ℕ) (heads : List (ℕ × ℕ)) (tree_heads : List ℕ) (t : TupleData) (v : StabVerdictData) → IsStabOfRank t.rank v → place + stab_lines t.rank v ≤ n → AreBefore n (stab_asked place heads tree_heads t v)
stab_before n place heads tree_heads t (done s p) is l =
    lines_then n (side_asked place heads t s) (parts_asked (place + side_lines t.rank) tree_heads s.end p) (side_before n place heads t s is.0 (omega (arith, l))) (parts_before n (place + side_lines t.rank) tree_heads s.end p (omega (arith, l)))
stab_before n place heads tree_heads t (stopped bound) is l = no_lines n

-- ---- answers
asked_before : (heads : List (ℕ × ℕ)) (tree_heads : List ℕ) (answer : AnswerData) → IsAnswerOfOneRank answer → AreBefore (answer_lines answer) (asked heads tree_heads answer)
asked_before heads tree_heads (reduce t s) is = side_before (answer_lines (reduce t s)) (head_lines (reduce t s)) heads t s is (omega arith)
asked_before heads tree_heads (decide s t v) is = verdict_before (answer_lines (decide s t v)) (head_lines (decide s t v)) heads s t v is.1 (omega arith)
asked_before heads tree_heads (straighten t given ms end) is = absurd is
asked_before heads tree_heads (stabiliser t v) is = stab_before (answer_lines (stabiliser t v)) (head_lines (stabiliser t v)) heads tree_heads t v is (omega arith)

pub broken_line : (heads : List (ℕ × ℕ)) (tree_heads : List ℕ) (answer : AnswerData) (place : ℕ) (rule : Rule) → IsAnswerOfOneRank answer → IsFirstBroken (asked heads tree_heads answer) place rule → place < answer_lines answer
broken_line heads tree_heads answer place rule is first = broken_before (answer_lines answer) (asked heads tree_heads answer) place rule (asked_before heads tree_heads answer is) first

-- The line of a certificate where judging stops has a number.
pub judged_line : (c : CertificateData) (r : Result (Unit {0}) Stop) (place : ℕ) (rule : Rule) → IsNumbered c → Judges (asked c.flow_heads c.tree_heads c.answer) r → r ≡ Err (Broken place rule) → place < length c.lines
judged_line c r place rule is judged e =
    let first : IsFirstBroken (asked c.flow_heads c.tree_heads c.answer) place rule = subst (Judges (asked c.flow_heads c.tree_heads c.answer)) e judged in
    omega (arith, broken_line c.flow_heads c.tree_heads c.answer place rule is.answer first, is.lines)
