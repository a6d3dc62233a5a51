-- The shape so far is kept by each statement that is not at fault.
use Rattle.network_text.proofs.Words.{All-append, All-cons, All-nil, All-push, AllPairs-nil, AreExchangers, Case, Entry, Exchanger, ForSome, Give}
use Rattle.network_text.proofs.Words.{HasPositiveSize, IsExchanger, IsOfOneStream, Network, Passes, Statement, StaysValid, checks, entry_in, exchanger_of}
use Rattle.network_text.proofs.Words.{exchangers_of, exchangers_of-push, given_has, grammar, next, option_to_list, own_branches, passages_of, same_Some, start}
use Rattle.network_text.proofs.Words.{used_by, with_any, with_entry}
use Rattle.network_text.proofs.Shaped.Entries.{Adds, HasShapeSoFar, added}
use Rattle.std.proofs.Common.{All, AllPairs, List, None, Option, Some, [], arith, refl, subst, sym, ℕ, ◌∙◌, ◌≡◌, ◌≢◌}
use Rattle.network_text.proofs.Shaped.Branches as branches

each_of : (case : Case) (o : Option Exchanger) → ForSome o (IsExchanger case)
    → All (IsExchanger case) (option_to_list o)
each_of case None is = All-nil (IsExchanger case)
each_of case (Some e) is = All-cons (IsExchanger case) e [] (is e refl) (All-nil (IsExchanger case))

exchangers_kept : {case : Case} {given : Network} {e : Entry} → HasShapeSoFar case given → Adds case given e
    → AreExchangers case (with_entry given e)
unfolding with_entry
exchangers_kept {case} {given} {e} shape adds =
    let all = sym (exchangers_of-push given.lines e.line) in record {
      each = subst (All (IsExchanger case)) all
          (All-append (IsExchanger case) (exchangers_of given.lines) (option_to_list (exchanger_of e.line)) shape.exchangers.each
          (each_of case (exchanger_of e.line) adds.exchanger));
      distinct = subst (AllPairs (λ (a b : Exchanger). a.name ≢ b.name)) all adds.fresh.new_exchanger;
    }

sizes_kept : {case : Case} {given : Network} {e : Entry} → HasShapeSoFar case given → Adds case given e
    → All HasPositiveSize (with_entry given e).lines
unfolding with_entry
sizes_kept {case} {given} {e} shape adds = All-push HasPositiveSize given.lines e.line shape.sizes adds.size

kept : {case : Case} {given : Network} {e : Entry} → HasShapeSoFar case given → Adds case given e
    → HasShapeSoFar case (with_entry given e)
kept shape adds = record {
  made_once = branches.made_in_order shape adds;
  made_first = branches.made_first shape adds;
  used_once = branches.used_once shape adds;
  named = branches.named shape adds;
  streams = branches.streams shape adds;
  one_stream = branches.one_stream shape adds;
  sizes = sizes_kept shape adds;
  exchangers = exchangers_kept shape adds;
  declared_first = branches.declared_first shape adds;
  at_most_once = branches.at_most_once shape adds;
}

shape_first : (case : Case) → StaysValid case → HasShapeSoFar case (start case)
unfolding start used_by exchangers_of passages_of
shape_first case valid = record {
  made_once = branches.own_in_order case;
  made_first = λ index l at. cc at;
  used_once = AllPairs-nil (λ (a b : ℕ). a ≢ b);
  named = branches.named_first case valid;
  streams = branches.streams_own case;
  one_stream = All-nil (IsOfOneStream (own_branches case));
  sizes = All-nil HasPositiveSize;
  exchangers =
      record { each = All-nil (IsExchanger case); distinct = AllPairs-nil (λ (a b : Exchanger). a.name ≢ b.name) };
  declared_first = λ index l at. cc at;
  at_most_once = λ exchanger stream. omega arith;
}

shape_next : (case : Case) (given : Network) (s : Statement) → HasShapeSoFar case given
    → Passes (checks case given s) → HasShapeSoFar case (next case given s)
shape_next case given s shape passes =
    let (e, is, adds) = added case given s shape passes in
    subst (λ o. HasShapeSoFar case (with_any given o)) (sym is) (kept shape adds)

-- so what sound statements give has it
pub shape_so_far : {case : Case} {statements : List Statement} {given : Network} → StaysValid case
    → Give (grammar case) statements given
    → HasShapeSoFar case given
shape_so_far {case} {statements} {given} valid give = subst (HasShapeSoFar case) (sym give.given_is)
    (given_has (grammar case) (HasShapeSoFar case) (shape_first case valid) (shape_next case) statements give.sound)

-- what a sound statement gives may be added
pub adds_next : {case : Case} {given : Network} {e : Entry} → HasShapeSoFar case given → (s : Statement)
    → Passes (checks case given s)
    → entry_in case given s ≡ Some e → Adds case given e
adds_next {case} {given} {e} shape s passes gives =
    let (other, is, adds) = added case given s shape passes in
    subst (Adds case given) (same_Some other e (sym is ∙ gives)) adds
