use Rattle.std.proofs.Common.{sym, ◌∙◌}
use Rattle.wh_words.proofs.SameTuples.{same_stored}
use Rattle.wh_words.proofs.tuple.Tuple.same.Goals as goal

pub returns : goal.returns
returns c =
    same_stored c.self.inside.rank c.other.inside.rank c.self.inside.ends.items c.other.inside.ends.items c.self.inside.letters.items c.other.inside.letters.items
    c.self.inside.room c.self.inside.word_room c.other.inside.room c.other.inside.word_room c.args.self.now c.args.other.now c.are_same.result c.self.invariant.laid c.other.invariant.laid c.self.view_is c.other.view_is
    (λ e. (let all = c.are_same.ensures.same e in
    (sym c.get.ensures.same ∙ all.0 ∙ c.get-2.ensures.same, sym c.as_slice.ensures ∙ all.1 ∙ c.as_slice-2.ensures, sym c.as_slice-3.ensures ∙ all.2 ∙ c.as_slice-4.ensures)))
    (λ n e x. c.are_same.ensures.apart (c.get.ensures.same ∙ n ∙ sym c.get-2.ensures.same) (c.as_slice.ensures ∙ e ∙ sym c.as_slice-2.ensures) (c.as_slice-3.ensures ∙ x ∙ sym c.as_slice-4.ensures))
