-- Equality of utilities, field by field.
use Rattle.std.proofs.Common.{ap, ◌≡◌}
use Rattle.stream_case.proofs.Words.{Decides, Decides-and, Decides-int_eq, Decides-like, Side, Utility, bytes_decides, int_eq, nat_eq, pointwise, same_true}
use Rattle.stream_case.proofs.Words.{sameb, the_type, true_same, ◌&&◌}

Decides-same_side : (a b : Side) → Decides (sameb the_type a b) (a ≡ b)
Decides-same_side a b = (same_true the_type tt a b, true_same the_type a b)

pub Decides-same_utility : (a b : Utility) → Decides (pointwise nat_eq a.name b.name
    && (sameb the_type a.side b.side &&
    (int_eq a.level b.level && (int_eq a.least b.least && (int_eq a.most b.most && (int_eq a.price b.price && int_eq a.contribution b.contribution)))))) (a ≡ b)
Decides-same_utility a b = Decides-like _ (λ h i. record {
  name = h.0 i;
  side = h.1.0 i;
  level = h.1.1.0 i;
  least = h.1.1.1.0 i;
  most = h.1.1.1.1.0 i;
  price = h.1.1.1.1.1.0 i;
  contribution = h.1.1.1.1.1.1 i;
}) (λ e. (
  ap (λ (u : Utility). u.name) e,
  (
    ap (λ (u : Utility). u.side) e,
    (
      ap (λ (u : Utility). u.level) e,
      (ap (λ (u : Utility). u.least) e, (ap (λ (u : Utility). u.most) e, (ap (λ (u : Utility). u.price) e, ap (λ (u : Utility). u.contribution) e))),
    ),
  ),
)) (Decides-and _ _ (bytes_decides a.name b.name) (Decides-and _ _ (Decides-same_side a.side b.side) (Decides-and _ _ (Decides-int_eq a.level b.level)
    (Decides-and _ _ (Decides-int_eq a.least b.least)
    (Decides-and _ _ (Decides-int_eq a.most b.most) (Decides-and _ _ (Decides-int_eq a.price b.price) (Decides-int_eq a.contribution b.contribution)))))))
