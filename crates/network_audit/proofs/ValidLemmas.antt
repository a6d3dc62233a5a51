-- A network without a finding is valid, and no test of a valid one fails: so what is rejected is not valid.
use Rattle.network_audit.proofs.BehindPass.{behind_there}
use Rattle.network_audit.proofs.EndLemmas.{each-ends}
use Rattle.network_audit.proofs.FindingLemmas.{found-whole}
use Rattle.network_audit.proofs.PartLemmas.{each-part, passed-each}
use Rattle.network_audit.proofs.TestLemmas.{AreSound, IsKept, IsSound, MayStand, sound-no_test, sound-passed}
use Rattle.network_audit.proofs.TestLemmas.{sound_balance, sound_exchanger, sound_line, sound_stream, sound_utility}
use Rattle.network_audit.proofs.Words.{All-flat_map, All-head, Case, Exchanger, HasNoFinding, HasShape, IsBelow}
use Rattle.network_audit.proofs.Words.{IsFinding, IsFullEnd, IsPermitted, IsValidNetwork, IsValuation}
use Rattle.network_audit.proofs.Words.{IsWholeValuation, LeavesRoom, Line, Network, PassKeepsLoad, Place, Reason}
use Rattle.network_audit.proofs.Words.{Valuation, agree-take, all_at, each_first, ended_by, ends, exchangers_of}
use Rattle.network_audit.proofs.Words.{first_finding, item_at, items, line_of, loads_kept, made_before, room_left}
use Rattle.network_audit.proofs.Words.{front, slice_get-get_or, slice_get_within, valuation_front}
use Rattle.std.proofs.Common.{None, Some, [], arith, get_or, length, slice_get, subst, sym, ℕ, ◌+◌, ◌-◌, ◌<◌, ◌≡◌}
use Rattle.network_audit.specs.declared.findings.Finding.TheVariants as finding
use Rattle.networks.specs.declared.network.Line.TheVariants as line

-- ---- no finding, and so valid

module _ (case : Case) (network : Network) where
  pub valid_from_none : (values : Valuation) → HasShape case network → IsWholeValuation case network values
      → first_finding (items case network values (length network.lines)) ≡ None → IsValidNetwork case network
  unfolding ended_by
  valid_from_none values shape valuation none =
      let n = length network.lines in
      let es = exchangers_of network.lines in
      let all = passed-each case network values none in
      let line : (k : ℕ) (l : Line) → slice_get network.lines k ≡ Some l → IsKept case network values l
      = λ k l at. (sound_line case network values shape valuation k l at).0 (sound-passed _ (all.lines k l at)) in
      let exchanger : (k : ℕ) (e : Exchanger) → slice_get es k ≡ Some e → MayStand case network values k e
      = λ k e at. (sound_exchanger case network values k e).0 (sound-passed _ (all.exchangers k e at)) in
      record {
        values = values;
        valuation = valuation;
        ended = record {
          full = All-flat_map (IsFullEnd case network values) ends network.lines
              (λ k d inside. (line k (get_or network.lines k d) (slice_get-get_or network.lines k d inside)).full);
          each = λ stream inside.
              let (s, at) = item_at case.streams stream inside in
              (sound_stream network stream s).0 (sound-passed _ (all.streams stream s at));
        };
        loads = loads_kept case network n values shape valuation
            (each_first (PassKeepsLoad case network values) network.lines n (λ k l early at. (line k l at).load));
        approaches = λ number e at. (exchanger number e at).approach;
        permitted = λ k d inside. (exchanger k (get_or es k d) (slice_get-get_or es k d inside)).permitted;
        ranges = λ index u at. (sound_utility network index u).0 (sound-passed _ (all.utilities index u at));
      }

  pub valid_network : HasShape case network → HasNoFinding case network → IsValidNetwork case network
  valid_network shape none = valid_from_none none.values shape none.valuation none.none

-- ---- no test of a valid network fails

module _ (case : Case) (network : Network) (shape : HasShape case network) (valid : IsValidNetwork case network) where
  -- a split left room, seen from the whole valuation
  room_whole : (k : ℕ) (l : Line) → slice_get network.lines k ≡ Some l → LeavesRoom valid.values l
  room_whole k (line.Split from first size second) at =
      let l = line.Split from first size second in
      let n = length network.lines in
      let values = valid.values in
      let inside = slice_get_within network.lines k l at in
      let all : k + (n - k) ≡ n = omega (arith, inside) in
      let whole_is = subst (λ m. IsValuation case network m values) (sym all) valid.valuation in
      let before = valuation_front case network k (n - k) values shape whole_is in
      let room = room_left case network n values shape valid.valuation k l (front case network k values) inside at before in
      let used = All-head (λ b. b < made_before case network k) from [] (line_of shape k l at).numbers.used in
      subst (λ v. IsBelow size v.cp) (sym ((agree-take values (made_before case network k)).same from used)) room
  room_whole k other at = tt

  -- the state behind a pass is a part of the load
  load_whole : (k : ℕ) (l : Line) → slice_get network.lines k ≡ Some l → PassKeepsLoad case network valid.values l
  load_whole k (line.Pass from exchanger to) at = valid.loads to (behind_there shape valid.valuation k at)
  load_whole k other at = tt

  line_kept : (k : ℕ) (l : Line) → slice_get network.lines k ≡ Some l → IsKept case network valid.values l
  unfolding ended_by
  line_kept k l at = record {
    room = room_whole k l at;
    load = load_whole k l at;
    full = each-ends (IsFullEnd case network valid.values) network.lines k l valid.ended.full at;
  }

  may_stand : (number : ℕ) (e : Exchanger) → slice_get (exchangers_of network.lines) number ≡ Some e
      → MayStand case network valid.values number e
  may_stand number e at = record {
    permitted = all_at (IsPermitted case) (exchangers_of network.lines) number e valid.permitted at;
    approach = valid.approaches number e at;
  }

  all_sound : AreSound (items case network valid.values (length network.lines))
  all_sound = each-part IsSound case network valid.values (record {
    lines = λ k l at. (sound_line case network valid.values shape valid.valuation k l at).1 (line_kept k l at);
    streams = λ index s at. (sound_stream network index s).1 (valid.ended.each index (slice_get_within case.streams index s at));
    exchangers = λ number e at. (sound_exchanger case network valid.values number e).1 (may_stand number e at);
    utilities = λ index u at. (sound_utility network index u).1 (valid.ranges index u at);
    balance = sound_balance case network;
  })

module _ (case : Case) (network : Network) where
  pub invalid_network : (at : Place) (because : Reason) → HasShape case network
      → IsFinding case network (finding.Failed at because) → IsValidNetwork case network → ⊥
  invalid_network at because shape found valid =
      sound-no_test (items case network valid.values (length network.lines)) at because
      (all_sound case network shape valid)
      (found-whole case network valid.values (finding.Failed at because) shape found valid.valuation)
