-- A fraction's fields are those of its rational.
use Rattle.std.specs.Prelude.{◌≡◌}
use Rattle.fractions.specs.declared.fraction.Frac.TheInside.{Inside}
use Rattle.fractions.specs.Fields.{IsFraction, fields-num, fields-den}
use Rattle.fractions.specs.Rationals.{Rational, ratio}

abbrev pub fields_of : Rational → Inside
fields_of a = record { num = a.num; den = a.den }

pub fields_of-ratio : (f : Inside) → IsFraction f.num f.den → fields_of (ratio f.num f.den) ≡ f
fields_of-ratio f is = λ i. record { num = fields-num f.num f.den is i; den = fields-den f.num f.den is i }
