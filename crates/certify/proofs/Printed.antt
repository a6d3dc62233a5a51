-- The text of a report is read as the report.
use Rattle.certify.proofs.Numbers.{IsNumber, amount_number, cost_number, level_number}
use Rattle.certify.proofs.Words.{All-append, All-cons, All-map, All-nil, All-slice_get, All-weaker, CutKind, Follows, Give, Given, IsPlainField}
use Rattle.certify.proofs.Words.{IsPlainStatement, IsReport, IsWithin, Kind, MOST_AMOUNT, MOST_COST, MOST_LEVEL, Moved, Passes, Priced, Report, Span, Statement}
use Rattle.certify.proofs.Words.{Used, all_give, checks, codes, cut_kind, cut_kind_in, entry_in, field_checks, first_failing, grammar, is_name, kind_checks}
use Rattle.certify.proofs.Words.{kind_of, name-passes, none_fails, nothing_gives, one_more_gives, slice_get-seam, span_at, span_checks, true}
use Rattle.certify.specs.Printed.{IsMove, IsPrice, IsReadable, IsSpan, IsUse, PrintedReportsAreReadAgain, cost_statement, cut_statement, kind_word}
use Rattle.certify.specs.Printed.{move_statement, part_statement, priced_statement, statements_in, use_statement}
use Rattle.statements.proofs.PlainStatements.{name_plain, plain_statement, statements-back, word_plain}
use Rattle.std.proofs.Common.{All, List, None, Some, [], ap, arith, false, get_or, is_some, length, map, refl, subst, sym, ℕ, ℤ, ◌++◌, ◌==◌, ◌∷◌, ◌≡◌}
use Rattle.certify.specs.declared.given.Given.TheVariants as gave
use Rattle.certify.specs.declared.kind.Kind.TheVariants as kind
use Rattle.certify.specs.declared.report.Report.TheVariants as report
use Rattle.heat_flow.specs.declared.cut.CutKind.TheVariants as cut

-- ---- the statements, one after the other

passes_of : (given : Given) (s : Statement) (k : Kind) → kind_of s ≡ Some k
    → Passes (kind_checks (Some k) given s) → first_failing (checks given s) ≡ None
unfolding checks
passes_of given s k is passes =
    let known : is_some (kind_of s) ≡ true = ap is_some is in
    rw (known, is) (none_fails (kind_checks (Some k) given s) passes)

-- the printed name and numbers of a part
record IsReadSpan (s : Span) : Type 0 where
  name : is_name s.name ≡ true
  high : IsNumber MOST_LEVEL s.high
  low : IsNumber MOST_LEVEL s.low

read_span : (s : Span) → IsSpan s → IsReadSpan s
read_span s is =
    record { name = name-passes s.name is.name; high = level_number s.high is.high; low = level_number s.low is.low }

cost_follows : (cost : ℤ) → IsWithin MOST_COST cost
    → Follows grammar gave.Nothing (cost_statement cost) (gave.Whole (report.Flow cost [] [] [] []))
unfolding entry_in field_checks
cost_follows cost is =
    let n = cost_number cost is in record {
      passes = passes_of gave.Nothing (cost_statement cost) kind.Cost refl (refl, (refl, (n.some, (n.within, tt))));
      next_is = λ i. gave.Whole (report.Flow (sym n.value i) [] [] [] []);
    }

use_follows : (cost : ℤ) (before : List Used) (u : Used) → IsUse u
    → Follows grammar (gave.Whole (report.Flow cost before [] [] [])) (use_statement u)
    (gave.Whole (report.Flow cost (before ++ u ∷ []) [] [] []))
unfolding entry_in field_checks
use_follows cost before u is =
    let n = amount_number u.heat is.heat in record {
      passes =
          passes_of _ (use_statement u) kind.Use refl (refl, (refl, (name-passes u.name is.name, (n.some, (n.within, tt)))));
      next_is =
          λ i. gave.Whole (report.Flow cost (before ++ record { name = u.name; heat = sym n.value i } ∷ []) [] [] []);
    }

move_follows : (cost : ℤ) (uses : List Used) (before : List Moved) (m : Moved) → IsMove m
    → Follows grammar (gave.Whole (report.Flow cost uses before [] [])) (move_statement m)
    (gave.Whole (report.Flow cost uses (before ++ m ∷ []) [] []))
unfolding entry_in field_checks span_checks span_at
move_follows cost uses before m is =
    let n = amount_number m.heat is.heat in
    let h = read_span m.hot is.hot in
    let k = read_span m.cold is.cold in
    let a = h.high in
    let b = h.low in
    let d = k.high in
    let e = k.low in
    record {
      passes = passes_of _ (move_statement m) kind.Move refl
          (refl, (refl, (h.name, (a.some, (a.within, (b.some, (b.within, (k.name, (d.some, (d.within, (e.some, (e.within, (n.some, (n.within, tt))))))))))))));
      next_is = λ i. gave.Whole (report.Flow cost uses (before ++ record {
        hot = record { name = m.hot.name; high = sym h.high.value i; low = sym h.low.value i };
        cold = record { name = m.cold.name; high = sym k.high.value i; low = sym k.low.value i };
        heat = sym n.value i;
      } ∷ []) [] []);
    }

give_follows : (cost : ℤ) (uses : List Used) (moves : List Moved) (before : List Priced) (g : Priced) → IsPrice g
    → Follows grammar (gave.Whole (report.Flow cost uses moves before [])) (priced_statement (codes "give") g)
    (gave.Whole (report.Flow cost uses moves (before ++ g ∷ []) []))
unfolding entry_in field_checks span_checks span_at
give_follows cost uses moves before g is =
    let n = amount_number g.price is.price in
    let p = read_span g.part is.part in
    record {
      passes = passes_of _ (priced_statement (codes "give") g) kind.Give refl
          (refl, (refl, (p.name, (p.high.some, (p.high.within, (p.low.some, (p.low.within, (n.some, (n.within, tt)))))))));
      next_is = λ i. gave.Whole (report.Flow cost uses moves (before ++ record {
        part = record { name = g.part.name; high = sym p.high.value i; low = sym p.low.value i };
        price = sym n.value i;
      } ∷ []) []);
    }

take_follows : (cost : ℤ) (uses : List Used) (moves : List Moved) (gives before : List Priced) (g : Priced) → IsPrice g
    → Follows grammar (gave.Whole (report.Flow cost uses moves gives before)) (priced_statement (codes "take") g)
    (gave.Whole (report.Flow cost uses moves gives (before ++ g ∷ [])))
unfolding entry_in field_checks span_checks span_at
take_follows cost uses moves gives before g is =
    let n = amount_number g.price is.price in
    let p = read_span g.part is.part in
    record {
      passes = passes_of _ (priced_statement (codes "take") g) kind.Take refl
          (refl, (refl, (p.name, (p.high.some, (p.high.within, (p.low.some, (p.low.within, (n.some, (n.within, tt)))))))));
      next_is = λ i. gave.Whole (report.Flow cost uses moves gives (before ++ record {
        part = record { name = g.part.name; high = sym p.high.value i; low = sym p.low.value i };
        price = sym n.value i;
      } ∷ []));
    }

infeasible_follows : Follows grammar gave.Nothing (codes "infeasible" ∷ []) gave.Infeasible
unfolding entry_in field_checks
infeasible_follows =
    record {
      passes = passes_of gave.Nothing (codes "infeasible" ∷ []) kind.Infeasible refl (refl, (refl, tt));
      next_is = refl;
    }

kind_known : (kind : CutKind) → cut_kind (kind_word kind) ≡ kind
unfolding cut_kind
kind_known cut.Demand = refl
kind_known cut.Supply = refl

kind_passes : (kind : CutKind) → is_some (cut_kind_in (kind_word kind)) ≡ true
kind_passes cut.Demand = refl
kind_passes cut.Supply = refl

cut_follows : (kind : CutKind) (need offer : ℤ) → IsWithin MOST_AMOUNT need → IsWithin MOST_AMOUNT offer
    → Follows grammar gave.Infeasible (cut_statement kind need offer) (gave.Whole (report.Cut kind need offer []))
unfolding entry_in field_checks
cut_follows of need offer need_within offer_within =
    let n = amount_number need need_within in
    let o = amount_number offer offer_within in
    record {
      passes = passes_of gave.Infeasible (cut_statement of need offer) kind.Cut refl
          (refl, (refl, (kind_passes of, (n.some, (n.within, (o.some, (o.within, tt)))))));
      next_is = λ i. gave.Whole (report.Cut (sym (kind_known of) i) (sym n.value i) (sym o.value i) []);
    }

part_follows : (kind : CutKind) (need offer : ℤ) (before : List Span) (s : Span) → IsSpan s
    → Follows grammar (gave.Whole (report.Cut kind need offer before)) (part_statement s)
    (gave.Whole (report.Cut kind need offer (before ++ s ∷ [])))
unfolding entry_in field_checks span_checks span_at
part_follows of need offer before s is =
    let p = read_span s is in record {
      passes =
          passes_of _ (part_statement s) kind.Part refl (refl, (refl, (p.name, (p.high.some, (p.high.within, (p.low.some, (p.low.within, tt)))))));
      next_is =
          λ i. gave.Whole (report.Cut of need offer
          (before ++ record { name = s.name; high = sym p.high.value i; low = sym p.low.value i } ∷ []));
    }

-- ---- all of them

-- an element of a list, between those before it and those after it
of_all : {X : Type 0} (P : X → Type 0) (xs before : List X) (x : X) (after : List X) → All P xs
    → xs ≡ before ++ x ∷ after → P x
of_all P xs before x after all is =
    All-slice_get P (before ++ x ∷ after) (length before) x (subst (All P) is all) (slice_get-seam before x after)

given_in : (r : Report) → IsReadable r → Give grammar (statements_in r) (gave.Whole r)
given_in (report.Flow cost uses moves gives takes) is =
    let base : List Statement = cost_statement cost ∷ [] in
    let first = one_more_gives grammar [] gave.Nothing (cost_statement cost) (gave.Whole (report.Flow cost [] [] [] []))
    (nothing_gives grammar gave.Nothing refl) (cost_follows cost is.0) in
    let with_uses = all_give grammar use_statement (λ us. gave.Whole (report.Flow cost us [] [] [])) base uses
    (λ before u after at. use_follows cost before u (of_all IsUse uses before u after is.1 at)) first in
    let with_moves = all_give grammar move_statement (λ ms. gave.Whole (report.Flow cost uses ms [] []))
    (base ++ map use_statement uses) moves
    (λ before m after at. move_follows cost uses before m (of_all IsMove moves before m after is.2 at)) with_uses in
    let with_gives =
    all_give grammar (priced_statement (codes "give")) (λ gs. gave.Whole (report.Flow cost uses moves gs []))
    ((base ++ map use_statement uses) ++ map move_statement moves) gives
    (λ before g after at. give_follows cost uses moves before g (of_all IsPrice gives before g after is.3 at)) with_moves in
    all_give grammar (priced_statement (codes "take")) (λ ts. gave.Whole (report.Flow cost uses moves gives ts))
    (((base ++ map use_statement uses) ++ map move_statement moves) ++ map (priced_statement (codes "give")) gives) takes
    (λ before g after at. take_follows cost uses moves gives before g (of_all IsPrice takes before g after is.4 at)) with_gives
given_in (report.Cut of need offer parts) is =
    let word : Statement = codes "infeasible" ∷ [] in
    let first = one_more_gives grammar [] gave.Nothing word gave.Infeasible
    (nothing_gives grammar gave.Nothing refl) infeasible_follows in
    let second = one_more_gives grammar (word ∷ []) gave.Infeasible (cut_statement of need offer)
    (gave.Whole (report.Cut of need offer [])) first (cut_follows of need offer is.0 is.1) in
    all_give grammar part_statement (λ ps. gave.Whole (report.Cut of need offer ps))
    (word ∷ cut_statement of need offer ∷ []) parts
    (λ before s after at. part_follows of need offer before s (of_all IsSpan parts before s after is.2 at)) second

-- ---- their fields are plain

use_plain : (u : Used) → IsUse u → IsPlainStatement (use_statement u)
use_plain u is =
    plain_statement _ _ (word_plain (codes "use") (omega arith) refl) refl (name_plain u.name is.name, ((amount_number u.heat is.heat).plain, tt))

move_plain : (m : Moved) → IsMove m → IsPlainStatement (move_statement m)
move_plain m is =
    let n = amount_number m.heat is.heat in
    let h = read_span m.hot is.hot in
    let k = read_span m.cold is.cold in
    plain_statement _ _ (word_plain (codes "move") (omega arith) refl) refl
    (name_plain m.hot.name is.hot.name, (h.high.plain, (h.low.plain, (name_plain m.cold.name is.cold.name, (k.high.plain, (k.low.plain, (n.plain, tt)))))))

priced_plain : (word : List ℕ) → IsPlainField word → (get_or word 0 0 == 35) ≡ false → (g : Priced)
    → IsPrice g → IsPlainStatement (priced_statement word g)
priced_plain word first counts g is = let p = read_span g.part is.part in
    plain_statement _ _ first counts (name_plain g.part.name is.part.name, (p.high.plain, (p.low.plain, ((amount_number g.price is.price).plain, tt))))

part_plain : (s : Span) → IsSpan s → IsPlainStatement (part_statement s)
part_plain s is = let p = read_span s is in
    plain_statement _ _ (word_plain (codes "part") (omega arith) refl) refl (name_plain s.name is.name, (p.high.plain, (p.low.plain, tt)))

kind_plain : (kind : CutKind) → IsPlainField (kind_word kind)
kind_plain cut.Demand = word_plain (codes "demand") (omega arith) refl
kind_plain cut.Supply = word_plain (codes "supply") (omega arith) refl

cut_plain : (kind : CutKind) (need offer : ℤ) → IsWithin MOST_AMOUNT need → IsWithin MOST_AMOUNT offer
    → IsPlainStatement (cut_statement kind need offer)
cut_plain kind need offer is_need is_offer = plain_statement _ _ (word_plain (codes "cut") (omega arith) refl) refl
    (kind_plain kind, ((amount_number need is_need).plain, ((amount_number offer is_offer).plain, tt)))

-- statements that are made of a list behind others
with_more : {X : Type 0} (item_of : X → Statement) (P : X → Type 0) (base : List Statement) (xs : List X)
    → ((x : X) → P x → IsPlainStatement (item_of x))
    → All P xs → All IsPlainStatement base → All IsPlainStatement (base ++ map item_of xs)
with_more item_of P base xs plain all before = All-append IsPlainStatement base (map item_of xs) before
    (All-map IsPlainStatement item_of xs (All-weaker P (λ x. IsPlainStatement (item_of x)) plain xs all))

plain : (r : Report) → IsReadable r → All IsPlainStatement (statements_in r)
plain (report.Flow cost uses moves gives takes) is =
    let base : List Statement = cost_statement cost ∷ [] in
    let first = All-cons IsPlainStatement (cost_statement cost) []
    (plain_statement (codes "cost") _ (word_plain (codes "cost") (omega arith) refl) refl ((cost_number cost is.0).plain, tt)) (All-nil IsPlainStatement) in
    let with_uses = with_more use_statement IsUse base uses use_plain is.1 first in
    let with_moves = with_more move_statement IsMove (base ++ map use_statement uses) moves move_plain is.2 with_uses in
    let with_gives = with_more (priced_statement (codes "give")) IsPrice ((base ++ map use_statement uses) ++ map move_statement moves) gives
    (priced_plain (codes "give") (word_plain (codes "give") (omega arith) refl) refl) is.3 with_moves in
    with_more (priced_statement (codes "take")) IsPrice
    (((base ++ map use_statement uses) ++ map move_statement moves) ++ map (priced_statement (codes "give")) gives) takes
    (priced_plain (codes "take") (word_plain (codes "take") (omega arith) refl) refl) is.4 with_gives
plain (report.Cut of need offer parts) is =
    let word : Statement = codes "infeasible" ∷ [] in
    let first : IsPlainStatement word
    = plain_statement (codes "infeasible") [] (word_plain (codes "infeasible") (omega arith) refl) refl tt in
    with_more part_statement IsSpan (word ∷ cut_statement of need offer ∷ []) parts part_plain is.2
    (All-cons IsPlainStatement word (cut_statement of need offer ∷ []) first
    (All-cons IsPlainStatement (cut_statement of need offer) [] (cut_plain of need offer is.0 is.1) (All-nil IsPlainStatement)))

-- ---- the law

value_of_statements : (r : Report) → IsReadable r → IsReport (statements_in r) r
value_of_statements r is =
    let give = given_in r is in
    record { sound = give.sound; complete = rw (sym give.given_is) refl; value_is = rw (sym give.given_is) refl }

pub printed-again : PrintedReportsAreReadAgain
printed-again r is =
    subst (λ (ss : List Statement). IsReport ss r) (sym (statements-back (statements_in r) (plain r is))) (value_of_statements r is)
