-- Where the pieces are led, the network of pieces is valid, and its audit has no finding.
use Rattle.pieces.proofs.Words.{All-append, All-map, All-weaker, AreFormed, AreLedPieces, AreSmall, AreStreams-IsComplete, Case, Exchange, Exchanger}
use Rattle.pieces.proofs.Words.{HIGHEST_LEVEL, HasRoom, HasUtilityHeat, HaveWholeHeats, IsComplete, IsInRange, IsLedNetwork, IsOfOneStream}
use Rattle.pieces.proofs.Words.{IsPermitted, IsPlaced, IsPlaced-IsComplete, IsRoomy, IsSized, IsValidNetwork, IsValidStream, Line, MOST_LINES}
use Rattle.pieces.proofs.Words.{MOST_LOAD, Network, Piece, RunsAs, RunsThrough, Share, Side, Source, Stream, Utility, all_at, at_most-whole}
use Rattle.pieces.proofs.Words.{at_most_trans, balance_of, cost_of, courses_values, duties_with, duty_with, enters-run, enumerate_from}
use Rattle.pieces.proofs.Words.{exchange_balance, exchangers_of, filter_map, first_state-sized, full_size-sized, grouped_utility_formed, heat-sized}
use Rattle.pieces.proofs.Words.{heat_with, heats_with, hot_target, is_forbidden, is_latent_branch-is, leaves-run, led_course, led_piece, level_in}
use Rattle.pieces.proofs.Words.{loads_kept, network_of, no_finding_from_room, on_side, piece_on, ratio-one, same_Some, shares_of, side_of}
use Rattle.pieces.proofs.Words.{sized-between, sized_change, sized_roomy, sources_of, stage_values, take_all, temperature, the_pass_of, unwrap_or}
use Rattle.pieces.proofs.Words.{utility_items_at, utility_part}
use Rattle.std.proofs.Common.{All, List, None, Option, Some, ap, ap₂, arith, get_or, length, map, option_map, pos, refl, slice_get, subst, subst₂}
use Rattle.std.proofs.Common.{sym, unsigned_abs, ℕ, ℤ, ⊎_elim, ◌*◌, ◌+◌, ◌∙◌, ◌≡◌, ◌≤◌}
use Rattle.pieces.proofs.PieceShape.{CanBeLed, HasShape-pieces, declared_here, exchanger-at, exchanger-joins, exchanger_for, exchangers_of-network_of}
use Rattle.pieces.proofs.PieceShape.{joined-at, piece-for}
use Rattle.pieces.proofs.PieceStages.{All-numbered, numbered-each, source_at-piece}
use Rattle.design_lines.proofs.StageSizes.{CourseHolds, IsOver, IsStageBranch, StageHolds, course_holds, courses_hold, stage_sized}
use Rattle.fractions.specs.Rationals.{IsAtMost, IsWithinLimits, Rational, minus, plus, ratio, rational_sum, rational_sum_by, times, whole}
use Rattle.network_values.specs.Sides.{KeepApproaches, KeepsApproach, SideRun, approach_of, enters, fixed_level, leaves, level_or, pass_run}
use Rattle.network_values.specs.Sides.{passed_run, run_between, side_run}
use Rattle.network_values.specs.Values.{IsPartOfLoad, KeepLoads, PassKeepsLoad, Valuation, branch_side, change, first_value, full_size, value_at}
use Rattle.pieces.proofs.CarriedStates.{IsRun, network_here, courses_here, values_here, IsOwnPiece, stage-led, each-piece, network-valued, streams-ended}
use Rattle.pieces.proofs.CarriedStates.{passes-run}
use Rattle.networks.specs.declared.network.Line.TheVariants as line
use Rattle.stream_case.specs.declared.source.Side.TheVariants as side
use Rattle.stream_case.specs.declared.source.Source.TheVariants as source

pub balance-network_of : (case : Case) (hot cold : List Source) (exchanges : List Exchange)
    → balance_of case (network_of case hot cold exchanges) ≡ exchange_balance case hot cold exchanges
unfolding cost_of duties_with
balance-network_of case hot cold exchanges =
    let are = exchangers_of-network_of case hot cold exchanges in
    λ i. record {
      hot = rational_sum_by (λ x. utility_part x.duty x.hot) (are i);
      cold = rational_sum_by (λ x. utility_part x.duty x.cold) (are i);
      excess = minus (rational_sum_by (λ x. utility_part x.duty x.hot) (are i)) (whole (hot_target case.streams));
      cost =
          rational_sum_by (λ e. times (whole e.1.price) (rational_sum (filter_map (duty_with e.0) (are i))))
          (enumerate_from 0 case.utilities);
    }

-- ---- what holds of any source and of any stream

-- a side of an exchanger goes from the one state to the other
record Goes (of : Side) (run : SideRun) (before after : Rational) : Type 0 where
  enters : enters of run ≡ before
  leaves : leaves of run ≡ after

-- a source with one level has it at both ends
levelled : (of : Side) (run : SideRun) (before after : Rational) (o : Option ℤ) → (o ≡ None → Goes of run before after)
    → Goes of (level_or run o) (level_in before o) (level_in after o)
levelled of run before after None goes = goes refl
levelled side.Hot run before after (Some level) goes = record { enters = refl; leaves = refl }
levelled side.Cold run before after (Some level) goes = record { enters = refl; leaves = refl }

-- a stream's own branch leaves room
first-roomy : (s : Stream) → IsValidStream s → IsRoomy (first_value s)
first-roomy s valid =
    let size = unsigned_abs MOST_LOAD in
    let state = unsigned_abs HIGHEST_LEVEL in
    let small : AreSmall 1 size 1 state =
    record {
      size_den = omega arith;
      state_den = omega arith;
      dens = omega arith;
      size = omega arith;
      state = omega arith;
      heat = omega arith;
    } in
    let sized = full_size-sized s valid size (omega arith) in
    let state_sized = first_state-sized s valid state (omega arith) in
    sized_roomy 1 size 1 state (first_value s) small sized state_sized

module _ {case : Case} {hot cold : List Piece} {exchanges : List Exchange}
    (can : CanBeLed case hot cold exchanges) where
  abbrev network : Network
  network = network_here can

  abbrev values : Valuation
  values = values_here can

  exchangers-are : exchangers_of network.lines ≡ declared_here can
  exchangers-are = exchangers_of-network_of case (sources_of hot) (sources_of cold) exchanges

  -- ---- the sources of an exchange

  record IsPieceOf (of : Side) (number : ℕ) (e : Exchange) (p : Piece) : Type 0 where
    at : slice_get exchanges number ≡ Some e
    there : slice_get (on_side of hot cold) (piece_on of e) ≡ Some p

  -- a stream passes the exchanger from the one state of its piece to the other
  stream-goes : (of : Side) (number : ℕ) (e : Exchange) (p : Piece) (stream : ℕ) → IsPieceOf of number e p
      → p.source ≡ source.Stream stream
      → Goes of (passed_run case network values number (source.Stream stream)) p.before p.after
  unfolding branch_side
  stream-goes of number e p stream is own =
      let has = piece-for can of number e is.at in
      let same : has.piece ≡ p = same_Some has.piece p (sym has.there ∙ is.there) in
      let on : side_of case (source.Stream stream) ≡ Some of
      = ap (side_of case) (sym own) ∙ ap (λ (q : Piece). side_of case q.source) (sym same) ∙ has.on in
      let declared = ap (λ (xs : List Exchanger). slice_get xs number) exchangers-are
      ∙ exchanger-at can number e is.at in
      let joins = exchanger-joins can of number e p stream is.there own in
      let (from, to, index, pass) =
      the_pass_of (HasShape-pieces can) number stream (exchanger_for can (number, e)) declared joins in
      let first = value_at values from in
      let second = value_at values to in
      let run : IsRun can _ number first.t second.t =
      all_at (RunsAs case network (IsRun can) values) network.lines index (line.Pass from number to) (passes-run can)
      pass.here in
      let here : slice_get case.streams stream ≡ Some run.s
      = ap (slice_get case.streams) (sym pass.of_stream) ∙ run.here in
      let side_is : run.s.side ≡ of
      = same_Some run.s.side of (sym (ap (option_map (λ (s : Stream). s.side)) here) ∙ on) in
      let e_is : run.e ≡ e = same_Some run.e e (sym run.at ∙ is.at) in
      let piece_at = λ (on : Side) (x : Exchange). slice_get (on_side on hot cold) (piece_on on x) in
      let p_is : run.p ≡ p = same_Some run.p p (sym run.there ∙ ap₂ piece_at side_is e_is ∙ is.there) in
      let side_at = λ (k : ℕ). unwrap_or (side_of case (source.Stream k)) side.Hot in
      let branch_is : branch_side case network from ≡ of
      = ap side_at pass.of_stream ∙ ap (λ o. unwrap_or o side.Hot) on in
      let passed : passed_run case network values number (source.Stream stream) ≡ run_between of first second =
      ap (pass_run case network values) pass.found ∙ ap (λ d. run_between d first second) branch_is in
      record {
        enters = ap (enters of) passed ∙ enters-run of first second ∙ run.before_is ∙ ap (λ (q : Piece). q.before) p_is;
        leaves = ap (leaves of) passed ∙ leaves-run of first second ∙ run.after_is ∙ ap (λ (q : Piece). q.after) p_is;
      }

  source-goes : (of : Side) (number : ℕ) (e : Exchange) (p : Piece) (a : Source) → IsPieceOf of number e p
      → p.source ≡ a
      → Goes of (side_run case network values number a) (temperature case a p.before) (temperature case a p.after)
  unfolding side_run
  source-goes of number e p (source.Stream k) is own =
      let run = passed_run case network values number (source.Stream k) in
      let level = fixed_level case (source.Stream k) in
      levelled of run p.before p.after level (λ none. stream-goes of number e p k is own)
  source-goes of number e p (source.Utility k) is own =
      let run = passed_run case network values number (source.Utility k) in
      let level = fixed_level case (source.Utility k) in
      levelled of run p.before p.after level (λ none. cc none)

  runs-through : (of : Side) (number : ℕ) (e : Exchange) (p : Piece) → slice_get exchanges number ≡ Some e
      → slice_get (on_side of hot cold) (piece_on of e) ≡ Some p → RunsThrough case network values number of p
  runs-through of number e p at there =
      let goes = source-goes of number e p p.source (record { at = at; there = there }) refl in
      record { enters = goes.enters; leaves = goes.leaves }

  exchange-keeps : (number : ℕ) (e : Exchange) → slice_get exchanges number ≡ Some e
      → KeepsApproach case network values number (exchanger_for can (number, e))
  exchange-keeps number e at =
      let j = joined-at can number e at in
      let a = j.hot_piece in
      let b = j.cold_piece in
      let a_is = sym (source_at-piece hot e.hot a j.hot_there) in
      let b_is = sym (source_at-piece cold e.cold b j.cold_there) in
      let giving = runs-through side.Hot number e a at j.hot_there in
      let taking = runs-through side.Cold number e b at j.cold_there in
      let run = side_run case network values number in
      let apart = λ (u v : Rational). IsAtMost (plus u (whole (approach_of case a.source b.source))) v in
      record {
        hot_end =
            let hot_end = subst₂ apart (sym taking.leaves) (sym giving.enters) j.apart.hot_end in
            subst₂ (λ x y.
            IsAtMost (plus (leaves side.Cold (run y)) (whole (approach_of case x y))) (enters side.Hot (run x))) a_is
            b_is hot_end;
        cold_end =
            let cold_end = subst₂ apart (sym taking.enters) (sym giving.leaves) j.apart.cold_end in
            subst₂ (λ x y.
            IsAtMost (plus (enters side.Cold (run y)) (whole (approach_of case x y))) (leaves side.Hot (run x))) a_is
            b_is cold_end;
      }

  keeps-approaches : KeepApproaches case network values
  keeps-approaches number x there =
      numbered-each (exchanger_for can) exchanges (KeepsApproach case network values) exchange-keeps number x
      (ap (λ (xs : List Exchanger). slice_get xs number) (sym exchangers-are) ∙ there)

  -- ---- room

  -- each branch of a stage leaves room, as a stream's own does
  stage-roomy : (stream : ℕ) (s : Stream) (index : ℕ) (p : Piece) → IsOwnPiece can stream s index p
      → StageHolds IsRoomy (led_piece s.side exchanges (index, p))
  stage-roomy stream s index p piece =
      let fine = piece.is.fine in
      let full = full_size s in
      let d = fine.size_den in
      let m = fine.most_size in
      let e = fine.state_den in
      let n = fine.most_state in
      let shares = shares_of s.side index exchanges in
      let IsRatio = λ (a : Share). (num : ℤ) × (a.cp ≡ ratio num d) in
      let over = All-weaker IsRatio (λ (a : Share). IsOver d a.cp) (λ a (num, same).
      record { num = num; is = same }) shares fine.sizes in
      All-weaker (IsStageBranch d full p.before p.after) IsRoomy (λ v branch.
      let most = at_most_trans v.cp full (whole (pos m)) branch.most fine.most in
      let sized = sized-between d m v.cp branch.over.num fine.small.size_den branch.over.is branch.least most in
      sized_roomy d m e n v fine.small sized
      (⊎_elim (λ same. subst (IsSized e n) (sym same) fine.before) (λ same.
      subst (IsSized e n) (sym same) fine.after) branch.state))
      (stage_values p.before p.after shares)
      (stage_sized d full p.before p.after shares over (stage-led can stream s index p piece).positive piece.is.sizes)

  branches-roomy : All IsRoomy values
  branches-roomy =
      let valid = (AreStreams-IsComplete case can.complete).each in
      let first_roomy = All-map IsRoomy first_value case.streams (λ k s inside.
      first-roomy (get_or case.streams k s) (valid k s inside)) in
      let each_roomy = All-numbered (led_course hot cold exchanges) case.streams (CourseHolds IsRoomy) (λ k s here.
      course_holds IsRoomy (led_course hot cold exchanges (k, s))
      (each-piece can (StageHolds IsRoomy) k s here (λ index p piece. stage-roomy k s index p piece))) in
      let made_roomy = courses_hold IsRoomy (courses_here can) each_roomy in
      All-append IsRoomy (map first_value case.streams) (courses_values (courses_here can)) first_roomy made_roomy

  has-room : HasRoom case network values
  has-room = record {
    branches = branches-roomy;
    changes = λ k from exchanger to here.
        let run : IsRun can _ exchanger (value_at values from).t (value_at values to).t =
        all_at (RunsAs case network (IsRun can) values) network.lines k (line.Pass from exchanger to) (passes-run can)
        here in
        let fine = run.is.fine in
        let of = branch_side case network from in
        let change_within = sized_change fine.size_den fine.most_size fine.state_den fine.most_state of run.p.before
        run.p.after fine.small fine.before fine.after in
        subst₂ (λ t u. IsWithinLimits (change of t u)) (sym run.before_is) (sym run.after_is) change_within;
  }

  -- ---- loads

  line-keeps : (l : Line) → RunsAs case network (IsRun can) values l → IsOfOneStream network.branches l
      → PassKeepsLoad case network values l
  line-keeps (line.Exchanger name one other duty) run one_stream = tt
  line-keeps (line.Split from first size second) run one_stream = tt
  line-keeps (line.Pass from exchanger to) run one_stream = λ latent.
      let is_latent = is_latent_branch-is case network to run.s (ap (slice_get case.streams) one_stream ∙ run.here) in
      subst IsPartOfLoad (sym run.after_is) (run.is.load (sym is_latent ∙ latent))
  line-keeps (line.Mix first second to) run one_stream = tt
  line-keeps (line.End branch) run one_stream = tt

  keeps-loads : KeepLoads case network values
  keeps-loads =
      let lines = network.lines in
      let shape = HasShape-pieces can in
      let Keeps = PassKeepsLoad case network values in
      let each : All Keeps lines
      = λ k l within. line-keeps (get_or lines k l) (passes-run can k l within) (shape.one_stream k l within) in
      loads_kept case network (length lines) values shape (network-valued can shape).valuation
      (subst (All Keeps) (sym (take_all (length lines) lines (omega arith))) each)

  -- ---- utilities

  duties-are : (index : ℕ) → duties_with network index ≡ heats_with (sources_of hot) (sources_of cold) exchanges index
  unfolding duties_with
  duties-are index = ap (filter_map (duty_with index)) exchangers-are

  heat-is : (index : ℕ) (u : Utility) (has : HasUtilityHeat (sources_of hot) (sources_of cold) exchanges index u)
      → heat_with network index ≡ whole has.heat
  heat-is index u has = ap rational_sum (duties-are index) ∙ has.total

  in-range : (index : ℕ) (u : Utility) → slice_get case.utilities index ≡ Some u → IsInRange u (heat_with network index)
  in-range index u here =
      let has = can.led.utilities index u here in
      subst (IsInRange u) (sym (heat-is index u has))
      (record { least = at_most-whole u.least has.heat has.from; most = at_most-whole has.heat u.most has.upto })

  heats-whole : HaveWholeHeats case network
  heats-whole index u here =
      let has = can.led.utilities index u here in
      heat-sized 1 u (heat_with network index) has.heat (omega arith) (heat-is index u has ∙ sym (ratio-one has.heat))
      (all_at IsPlaced case.utilities index u (IsPlaced-IsComplete case can.complete) here) (in-range index u here)

  sums-formed : (index : ℕ) (u : Utility) → slice_get case.utilities index ≡ Some u
      → AreFormed (utility_items_at network (index, u))
  sums-formed index u here =
      let has = can.led.utilities index u here in
      grouped_utility_formed has.den has.most has.small network index u has.groups (duties-are index ∙ has.are) has.few
      has.each

  -- ---- the law

  all-permitted : All (IsPermitted case) (exchangers_of network.lines)
  all-permitted =
      subst (All (IsPermitted case)) (sym exchangers-are)
      (All-numbered (exchanger_for can) exchanges (IsPermitted case) (λ number e at.
      let j = joined-at can number e at in
      let given = source_at-piece hot e.hot j.hot_piece j.hot_there in
      let taken = source_at-piece cold e.cold j.cold_piece j.cold_there in
      ap₂ (is_forbidden case.forbids) given taken ∙ j.permitted))

  valid-network : IsValidNetwork case network
  valid-network =
      let valued = network-valued can (HasShape-pieces can) in
      record {
        values = values;
        valuation = valued.valuation;
        ended = record { full = valued.full; each = streams-ended can };
        loads = keeps-loads;
        approaches = keeps-approaches;
        permitted = all-permitted;
        ranges = in-range;
      }

  led-network : IsLedNetwork case hot cold exchanges network
  led-network =
      let shape = HasShape-pieces can in
      let valuation = (network-valued can shape).valuation in
      record {
        shape = shape;
        values = values;
        valuation = valuation;
        hot_runs = runs-through side.Hot;
        cold_runs = runs-through side.Cold;
        valid = valid-network;
        accepted =
            no_finding_from_room case network values can.complete shape valuation valid-network has-room heats-whole
            sums-formed;
      }

pub led_network : (case : Case) (hot cold : List Piece) (exchanges : List Exchange) → IsComplete case
    → 7 * length exchanges + length case.streams ≤ MOST_LINES
    → AreLedPieces case hot cold exchanges
    → IsLedNetwork case hot cold exchanges (network_of case (sources_of hot) (sources_of cold) exchanges)
led_network case hot cold exchanges complete few led =
    led-network (record { complete = complete; few = few; led = led })
