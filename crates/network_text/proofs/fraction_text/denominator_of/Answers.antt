use Rattle.network_text.proofs.Words.{MOST_DIGITS, denominator_in, is_slash, is_some-position, natural_in, position-some, take_rest}
use Rattle.std.proofs.Common.{ap, is_some, refl, sym, ◌+◌, ◌∙◌}
use Rattle.network_text.proofs.fraction_text.denominator_of.Goals as goal

pub returns-in_default : goal.returns-in_default
unfolding denominator_in
returns-in_default c =
    let none = sym (is_some-position is_slash c.args.text.now) ∙ ap is_some (sym c.in_default.ensures) in
    rw none refl

pub returns : goal.returns
unfolding denominator_in
returns c =
    let at = position-some is_slash c.args.text.now c.in-Some.slash (sym c.in-Some.ensures) in
    rw (at.some, at.index_is) (c.natural_of.ensures.number ∙ ap (natural_in MOST_DIGITS) (take_rest c.args.text.now (c.in-Some.slash + 1)))
