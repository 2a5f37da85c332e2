use Rattle.std.proofs.Common.{◌-◌, length, ap, ◌∙◌, sym, arith, rules}
use Rattle.std.proofs.lemmas.List.{get_or_read}
use Rattle.std.proofs.lemmas.Bool.{eqb-true, eqb-false}
use Rattle.wh_words.specs.Letters.{inverse_letter}
use Rattle.wh_words.proofs.Turning.{strip_inner, strip_open, strip_short}
use Rattle.wh_words.proofs.cyclic_word.strip_ends.Goals as goal

pub loop-rest-preserved : goal.loop-rest-preserved
loop-rest-preserved c =
    strip_inner c.loop-rest.rest.now c.in-len2-up.len_at_least
    (sym (get_or_read c.loop-rest.rest.now (length c.loop-rest.rest.now - 1) c.last-item.result (omega arith) c.last-item.is 0)
    ∙ eqb-true c.last-item.result c.inverse.result (sym c.if-eq.ensures)
    ∙ c.inverse.ensures
    ∙ ap inverse_letter (get_or_read c.loop-rest.rest.now 0 c.first-item.result (omega arith) c.first-item.is 0))
    ∙ c.loop-rest.invariant

pub returns-then-rest-lt2 : goal.returns-then-rest-lt2
returns-then-rest-lt2 c = sym (strip_short c.loop-rest.rest.now (search rules)) ∙ c.loop-rest.invariant

pub returns-else-eq : goal.returns-else-eq
returns-else-eq c =
    sym (strip_open c.loop-rest.rest.now (λ e. eqb-false c.last-item.result c.inverse.result (sym c.if-eq.ensures)
    (get_or_read c.loop-rest.rest.now (length c.loop-rest.rest.now - 1) c.last-item.result (omega arith) c.last-item.is 0
    ∙ e
    ∙ sym (c.inverse.ensures ∙ ap inverse_letter (get_or_read c.loop-rest.rest.now 0 c.first-item.result (omega arith) c.first-item.is 0)))))
    ∙ c.loop-rest.invariant
