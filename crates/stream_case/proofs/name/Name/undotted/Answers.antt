use Rattle.std.proofs.Common.{None, Option, Some, SomeIff, inl, is_some, refl, sym, true, ◌∙◌, ◌≡◌}
use Rattle.stream_case.proofs.NameTests.{fails-name, name-passes}
use Rattle.stream_case.proofs.Words.{IsName}
use Rattle.stream_case.proofs.name.Name.undotted.Goals as goal

some : {T : Type 0} {P : Type 0} (v : T) (r : Option T) → SomeIff r P v → P → is_some r ≡ true
some v (Some x) h p = refl
some v None h p = absurd (h p)

pub returns-then-not-is_name-clause-some : goal.returns-then-not-is_name-clause-some
returns-then-not-is_name-clause-some c =
    sym (fails-name c.args.bytes.now (λ is. let passes = c.is_name.ensures.1 is in cc (passes, c.if-not-is_name.true)))

pub returns-clause-some : goal.returns-clause-some
returns-clause-some c =
    let is : IsName c.args.bytes.now = c.is_name.ensures.0 (cc (c.if-not-is_name.false)) in
    some c.args.bytes.now c.new.result c.new.ensures (inl is) ∙ sym (name-passes c.args.bytes.now is)
