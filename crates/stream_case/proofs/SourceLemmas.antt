-- The tests of sides and of sources.
use Rattle.std.proofs.Common.{Decides, None, Option, Some, ap, arith, refl, sym, true, ◌≡◌}
use Rattle.stream_case.proofs.Words.{Case, Cold, Hot, IsRightWay, Side, Source, eq-eqb, eqb-true, ints, is_on, is_right_way, is_side, same_side, same_source}
use Rattle.stream_case.proofs.Words.{side_of, ℤ}
use Rattle.stream_case.specs.declared.source.Source.TheVariants.{Stream as of_stream, Utility as of_utility}

-- what holds of both sides holds of each
pub each_side : (P : Side → Type 0) → P Hot → P Cold → (side : Side) → P side
each_side P hot cold Hot = hot
each_side P hot cold Cold = cold

pub own_side : (side : Side) → same_side side side ≡ true
own_side Hot = refl
own_side Cold = refl

pub same_side-true : (a b : Side) → same_side a b ≡ true → a ≡ b
same_side-true Hot Hot e = refl
same_side-true Hot Cold e = cc
same_side-true Cold Hot e = cc
same_side-true Cold Cold e = refl

pub is_side-true : (of : Side) (o : Option Side) → is_side of o ≡ true → o ≡ Some of
is_side-true of None e = cc
is_side-true of (Some other) e = ap Some (sym (same_side-true of other e))

pub is_on-true : (c : Case) (of : Side) (source : Source) → is_on c of source ≡ true → side_of c source ≡ Some of
unfolding is_on
is_on-true c of source e = is_side-true of (side_of c source) e

pub Decides-is_right_way : (side : Side) (supply target : ℤ)
    → Decides (is_right_way side supply target) (IsRightWay side supply target)
Decides-is_right_way Hot supply target = (λ e. omega (arith, ints), λ h. grind (arith, ints))
Decides-is_right_way Cold supply target = (λ e. omega (arith, ints), λ h. grind (arith, ints))

pub same_source-true : (a b : Source) → same_source a b ≡ true → a ≡ b
same_source-true (of_stream i) (of_stream j) e = ap of_stream (eqb-true i j e)
same_source-true (of_stream i) (of_utility j) e = cc
same_source-true (of_utility i) (of_stream j) e = cc
same_source-true (of_utility i) (of_utility j) e = ap of_utility (eqb-true i j e)

pub same_source-same : (a : Source) → same_source a a ≡ true
same_source-same (of_stream i) = eq-eqb i i refl
same_source-same (of_utility i) = eq-eqb i i refl
