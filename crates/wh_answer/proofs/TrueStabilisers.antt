-- What is found of a stabiliser is so.
use Rattle.std.proofs.Common.{ℕ, List, [], ◌∷◌, map}
use Rattle.std.specs.List.{All}
use Rattle.std.proofs.lemmas.List.Elements.{All-nil, All-cons, All-head, All-tail}
use Rattle.wh_words.specs.Tuples.{TupleData}
use Rattle.wh_stab.specs.Presentations.{PresentationData}
use Rattle.wh_stab.specs.Relators.{RelatorData}
use Rattle.wh_stab.specs.Laws.{IsRelator}
use Rattle.wh_stab.proofs.Words.{fix_the_tuple, automorphisms_are_words}
use Rattle.wh_stab.proofs.RelatorWords.{relators_are_relations}
use Rattle.wh_data.specs.declared.answer.Loop.{Loop}
use Rattle.wh_data.specs.declared.answer.StabVerdict.{StabVerdict}
use Rattle.wh_data.specs.AnswerData.{stab_verdict_of}
use Rattle.wh_answer.specs.StabiliserAnswers.{told_loop, presentation_by, Presents}
use Rattle.wh_answer.specs.StabiliserAnswers.Presents.{too_long, too_many, many_edges, many_relators, presented}
use Rattle.wh_answer.specs.StabiliserMeanings.{SaysOfStabiliser}

loops_all : (P : RelatorData → Type 0) (rs : List Loop) → All P (map told_loop rs) → All (λ r. P (told_loop r)) rs
loops_all P [] all = All-nil (λ (r : Loop). P (told_loop r))
loops_all P (r ∷ rs) all =
    All-cons (λ (s : Loop). P (told_loop s)) r rs (All-head P (told_loop r) (map told_loop rs) all) (loops_all P rs (All-tail P (told_loop r) (map told_loop rs) all))

pub stab_says : (limit : ℕ) (t : TupleData) (v : StabVerdict) → Presents limit t v → SaysOfStabiliser t (stab_verdict_of v)
stab_says limit t v (too_long leads long) = tt
stab_says limit t v (too_many leads short more) = tt
stab_says limit t v (many_edges has more) = tt
stab_says limit t v (many_relators has few more) = tt
stab_says limit t v (presented {side = side} {parts = p} {l = l} has few less own are) =
    let q : PresentationData = presentation_by side.trace p in
    record {
      fix = fix_the_tuple t l.root q are.presented;
      generate = automorphisms_are_words t l.root q are.presented;
      relators = loops_all (IsRelator t.rank q) p.relators (relators_are_relations t l.root q (map told_loop p.relators) are.presented are.relators);
    }
