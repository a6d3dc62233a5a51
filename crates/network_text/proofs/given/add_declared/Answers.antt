use Rattle.network_text.proofs.Tables.{first_new, new_entry}
use Rattle.network_text.proofs.Words.{Sides, bytes_decides, keys_of}
use Rattle.std.proofs.Common.{[], bytes_eq, refl, ◌∙◌}
use Rattle.network_text.proofs.given.add_declared.Goals as goal
use Rattle.networks.specs.declared.few.AtMostTwo.TheVariants as few

pub returns-in_ok-insert-clause-added : goal.returns-in_ok-insert-clause-added
returns-in_ok-insert-clause-added c =
    let pairs = rw c.in-Exchanger.is at c.requires in
    let new = first_new bytes_eq (λ a b. (bytes_decides a b).0) (keys_of c.args.exchangers.now.entries)
    (few.One c.in-Exchanger.name) c.in-Exchanger.name [] refl pairs in
    let sides : Sides = record { hot = c.in-Exchanger.hot; cold = c.in-Exchanger.cold } in
    rw c.in-Exchanger.is (c.in_ok-insert.ensures.entries ∙ new_entry c.args.exchangers.now c.in-Exchanger.name sides new)
