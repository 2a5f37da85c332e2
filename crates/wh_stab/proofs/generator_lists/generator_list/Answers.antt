use Rattle.std.proofs.Common.{◌≡◌, ◌++◌, List, IfOk, sym, ap, subst, ◌∙◌}
use Rattle.wh_words.specs.Moves.{Move}
use Rattle.wh_words.specs.MoveLists.{inverse_list}
use Rattle.wh_words.specs.Action.{act}
use Rattle.wh_stab.specs.GeneratorLists.{Joins, presentation_of}
use Rattle.wh_stab.proofs.ListedGenerators.{from_within, to_within, list_is}
use Rattle.wh_stab.proofs.generator_lists.generator_list.Goals as goal

pub loop_of-requires-clause-from : goal.loop_of-requires-clause-from
loop_of-requires-clause-from c = from_within (presentation_of c.args.stab.now) c.args.k c.requires c.start_of-from.result c.start_of-from.ensures

pub loop_of-requires-clause-to : goal.loop_of-requires-clause-to
loop_of-requires-clause-to c =
    let p = presentation_of c.args.stab.now in
    let joins : Joins p c.start_of-from.result = c.requires.joins c.start_of-from.result c.start_of-from.ensures in
    to_within p c.args.k c.requires c.start_of-from.result c.start_of-from.ensures c.in_ok-to.to (act joins.tuple c.start_of-from.result.1) (c.in_ok-to.ensures joins.tuple joins.starts)

pub returns : goal.returns
returns c =
    let p = presentation_of c.args.stab.now in
    let joins : Joins p c.start_of-from.result = c.requires.joins c.start_of-from.result c.start_of-from.ensures in
    subst (λ (ms : List Move). IfOk c.joined.result (λ v. v.items ≡ ms))
    (ap (λ (ts : List Move). ts ++ (c.deref.result.now ++ inverse_list ts)) c.items-trace.ensures
    ∙ (ap (λ (ms : List Move). p.trace ++ (ms ++ inverse_list p.trace)) (c.deref.ensures.value ∙ c.in_ok-around.ensures)
    ∙ sym (list_is p c.args.k c.requires c.start_of-from.result c.start_of-from.ensures c.in_ok-to.to (c.in_ok-to.ensures joins.tuple joins.starts))))
    c.joined.ensures
