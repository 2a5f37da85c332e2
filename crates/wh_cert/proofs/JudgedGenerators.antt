-- What is asked of generators, where the edges off the tree are known.
use Rattle.std.proofs.Common.{◌≡◌, ◌↔◌, ℕ, ◌+◌, ◌<◌, Bool, IsTrue, List, [], ◌∷◌, length, get_or, Some, slice_get, refl, sym, ap, ◌∙◌, subst, arith}
use Rattle.std.proofs.lemmas.List.{same_lists}
use Rattle.std.proofs.lemmas.List.Elements.{All-head}
use Rattle.std.proofs.lemmas.Option.{slice_get-get_or, same_Some}
use Rattle.wh_stab.specs.Presentations.{Start, AreGenerators}
use Rattle.wh_stab.proofs.Words.{generators_unique}
use Rattle.wh_data.specs.AnswerData.{PartsData}
use Rattle.wh_cert.specs.declared.checked.Rule.TheVariants as rules
use Rattle.wh_cert.specs.declared.stop.Stop.TheVariants.{Broken}
use Rattle.wh_cert.specs.Demands.{Placed, IsMet, CountsGenerators, IsGeneratorAt, counts_generators, is_generator, presented_by, asked_below, generator_asked, generators_asked}
use Rattle.wh_cert.specs.Checks.{AreMet}
use Rattle.wh_cert.specs.Judged.{StopsAt}
use Rattle.wh_cert.specs.OffTree.{HasMoreOffTree}
use Rattle.wh_cert.proofs.Judging.{one_broken, stops_before}
use Rattle.wh_cert.proofs.MetParts.{first_met, rest_met, met_in}

module _ (p : PartsData) where
  -- There is one list of edges off the tree.
  one_list : (es fs : List Start) → AreGenerators (presented_by p es) → AreGenerators (presented_by p fs) → es ≡ fs
  one_list es fs a b = generators_unique (presented_by p es) (presented_by p fs) a b refl refl

  -- Where there are more, their number isn't that of the generators.
  pub too_many : HasMoreOffTree p (length p.generators) → ¬ (CountsGenerators p)
  too_many more = λ c. absurd (omega (arith, c.count, more c.edges c.are))

  pub too_many_stop : (place : ℕ) → HasMoreOffTree p (length p.generators) → StopsAt (generators_asked place p) (Broken place rules.Generators)
  too_many_stop place more =
      stops_before ((place, counts_generators p) ∷ []) (asked_below (generator_asked (place + 1) p) (length p.generators)) (Broken place rules.Generators) (one_broken place rules.Generators (counts_generators p) refl (too_many more))

  module _ (edges : List Start) (are : AreGenerators (presented_by p edges)) where
    pub count_tested : (b : Bool) → IsTrue b ↔ (length edges ≡ length p.generators) → IsTrue b ↔ CountsGenerators p
    count_tested b told = (
      λ t. record { edges = edges; are = are; count = sym (told.0 t) },
      λ c. told.1 (ap length (one_list edges c.edges are c.are) ∙ sym c.count),
    )

    pub one_count : (place : ℕ) → AreMet ((place, counts_generators p) ∷ []) → length p.generators ≡ length edges
    one_count place met =
        let c : CountsGenerators p = All-head (λ (d : Placed). IsMet d.1) (place, counts_generators p) [] met in
        c.count ∙ ap length (one_list c.edges edges c.are are)

    pub generator_tested : (k : ℕ) (x y : Start) (b : Bool) → k < length p.generators → k < length edges → x ≡ get_or p.generators k x → y ≡ get_or edges k y → IsTrue b ↔ (x ≡ y) → IsTrue b ↔ IsGeneratorAt p k
    generator_tested k x y b within low read stands told =
        let here : slice_get p.generators k ≡ Some x = slice_get-get_or p.generators k x within ∙ ap Some (sym read) in
        let there : slice_get edges k ≡ Some y = slice_get-get_or edges k y low ∙ ap Some (sym stands) in (
          λ t. record { edges = edges; are = are; same = here ∙ ap Some (told.0 t) ∙ sym there },
          λ g. told.1 (same_Some x y (sym here ∙ g.same ∙ ap (λ (es : List Start). slice_get es k) (one_list g.edges edges g.are are) ∙ there)),
        )

-- Where all that is asked of generators is met, they are the edges off the tree.
pub own_generators : (place : ℕ) (p : PartsData) → AreMet (generators_asked place p) → AreGenerators (presented_by p p.generators)
own_generators place p met =
    let each : List Placed = asked_below (generator_asked (place + 1) p) (length p.generators) in
    let c : CountsGenerators p = first_met place (counts_generators p) each met in
    let same : p.generators ≡ c.edges =
    same_lists p.generators c.edges c.count (λ k d l.
    let g : IsGeneratorAt p k = first_met (place + 1 + k) (is_generator p k) [] (met_in (generator_asked (place + 1) p) (length p.generators) k l (rest_met place (counts_generators p) each met)) in
    let at : slice_get p.generators k ≡ slice_get c.edges k = g.same ∙ ap (λ (es : List Start). slice_get es k) (one_list p g.edges c.edges g.are c.are) in
    same_Some (get_or p.generators k d) (get_or c.edges k d) (sym (slice_get-get_or p.generators k d l) ∙ at ∙ slice_get-get_or c.edges k d (omega (arith, l, c.count)))) in
    subst (λ (gs : List Start). AreGenerators (presented_by p gs)) (sym same) c.are
