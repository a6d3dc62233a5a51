-- The items of a network by its parts: its lines, streams, exchangers and utilities, and the balance.
use Rattle.network_audit.proofs.ItemLemmas.{each-items, passed-back, passed-front, passed-member}
use Rattle.network_audit.proofs.Words.{All-append, Case, Exchanger, Item, Line, Network, Stream, Utility, Valuation}
use Rattle.network_audit.proofs.Words.{balance_items, enumerate_from, exchanger_items, exchanger_items_at}
use Rattle.network_audit.proofs.Words.{exchangers_of, first_finding, items, items_before, items_behind, line_items}
use Rattle.network_audit.proofs.Words.{statement_items, stream_items, stream_items_at, utility_items}
use Rattle.network_audit.proofs.Words.{utility_items_at}
use Rattle.std.proofs.Common.{All, List, None, Some, [], ap, arith, eq-eqb, flat_map, if◌then◌else◌, length, refl}
use Rattle.std.proofs.Common.{slice_get, subst, sym, take_all, ℕ, ◌++◌, ◌+◌, ◌∙◌, ◌≡◌}
use Rattle.network_audit.specs.declared.findings.Place.TheVariants as place

module _ (case : Case) (network : Network) where
  all_lines : (values : Valuation)
      → items_before case network values (length network.lines + 1)
      ≡ flat_map (statement_items case network values) (enumerate_from 0 network.lines)
  unfolding items_before
  all_lines values = ap (λ ls. flat_map (statement_items case network values) (enumerate_from 0 ls))
      (take_all (length network.lines + 1) network.lines (omega arith))

  pub items-whole : (values : Valuation)
      → items case network values (length network.lines) ≡ flat_map (statement_items case network values)
      (enumerate_from 0 network.lines) ++ items_behind case network values
  unfolding items
  items-whole values =
      ap (λ b. items_before case network values (length network.lines + 1) ++ (if b then items_behind case network values else []))
      (eq-eqb (length network.lines) (length network.lines) refl)
      ∙ ap (λ xs. xs ++ items_behind case network values) (all_lines values)

-- what holds of the items of each part of an audit: of each line, stream, exchanger and utility, and of the balance
pub record HoldOfParts (P : List Item → Type 0) (case : Case) (network : Network) (values : Valuation) : Type 0 where
  pub lines : (k : ℕ) (l : Line) → slice_get network.lines k ≡ Some l
      → P (line_items case network values (place.Line (k + 1)) l)
  pub streams : (index : ℕ) (s : Stream) → slice_get case.streams index ≡ Some s
      → P (stream_items_at network (index, s))
  pub exchangers : (number : ℕ) (e : Exchanger) → slice_get (exchangers_of network.lines) number ≡ Some e
      → P (exchanger_items_at case network values (number, e))
  pub utilities : (index : ℕ) (u : Utility) → slice_get case.utilities index ≡ Some u
      → P (utility_items_at network (index, u))
  pub balance : P (balance_items case network)

abbrev pub ArePassed : List Item → Type 0
ArePassed items = first_finding items ≡ None

pub each-part : (P : Item → Type 0) (case : Case) (network : Network) (values : Valuation)
    → HoldOfParts (All P) case network values
    → All P (items case network values (length network.lines))
unfolding items_behind stream_items exchanger_items utility_items
each-part P case network values each =
    let exchangers = exchanger_items case network values in
    let utilities = utility_items case network in
    let balance = balance_items case network in
    subst (All P) (sym (items-whole case network values)) (All-append P _ _ (each-items P (statement_items case network values) network.lines each.lines)
    (All-append P _ _ (each-items P (stream_items_at network) case.streams each.streams)
    (All-append P _ _ (each-items P (exchanger_items_at case network values) (exchangers_of network.lines) each.exchangers)
    (All-append P _ _ (each-items P (utility_items_at network) case.utilities each.utilities) each.balance))))

pub passed-each : (case : Case) (network : Network) (values : Valuation)
    → first_finding (items case network values (length network.lines)) ≡ None
    → HoldOfParts ArePassed case network values
unfolding items_behind stream_items exchanger_items utility_items
passed-each case network values none =
    let statements = flat_map (statement_items case network values) (enumerate_from 0 network.lines) in
    let all : first_finding (statements ++ items_behind case network values) ≡ None
    = ap first_finding (sym (items-whole case network values)) ∙ none in
    let last_items = utility_items case network ++ balance_items case network in
    let later_items = exchanger_items case network values ++ last_items in
    let behind : first_finding (stream_items case network ++ later_items) ≡ None
    = passed-back statements (items_behind case network values) all in
    let later = passed-back (stream_items case network) later_items behind in
    let last = passed-back (exchanger_items case network values) last_items later in
    record {
      lines =
          passed-member (statement_items case network values) network.lines (passed-front statements (items_behind case network values) all);
      streams = passed-member (stream_items_at network) case.streams
          (passed-front (stream_items case network) (exchanger_items case network values ++ (utility_items case network ++ balance_items case network)) behind);
      exchangers = passed-member (exchanger_items_at case network values) (exchangers_of network.lines)
          (passed-front (exchanger_items case network values) (utility_items case network ++ balance_items case network) later);
      utilities =
          passed-member (utility_items_at network) case.utilities (passed-front (utility_items case network) (balance_items case network) last);
      balance = passed-back (utility_items case network) (balance_items case network) last;
    }
