-- The steps of reading the statements of a text.
use Rattle.network_text.proofs.Words.{Case, Entry, IsComplete, IsFresh, IsOutcome, MOST_STATEMENTS, NetFault, Network, Reads, Statement, StaysValid-IsComplete}
use Rattle.network_text.proofs.Words.{checks, each_passes, entry_in, first_failing, grammar, start, with_entry}
use Rattle.network_text.proofs.Shaped.Law.{has_room}
use Rattle.network_text.proofs.Shaped.Kept.{adds_next, shape_so_far}
use Rattle.std.proofs.Common.{◌∷◌, Err, IfErr, IsErrAnd, List, None, Ok, Result, Some, [], length, length-append, refl, subst, sym, ℕ, ◌+◌, ◌<◌, ◌≡◌}
use Rattle.network_text.specs.declared.fault.NetFault.TheVariants as fault

-- ---- the lines so far are as many as the statements

pub lines-start : (case : Case) → length (start case).lines ≡ 0
unfolding start
lines-start case = refl

pub lines-with_entry : (given : Network) (e : Entry) → length (with_entry given e).lines ≡ length given.lines + 1
unfolding with_entry
lines-with_entry given e = length-append given.lines (e.line ∷ [])

-- ---- a statement that is not at fault

pub room_next : (case : Case) (given : Network) (s : Statement) → first_failing (checks case given s) ≡ None
    → length given.lines < MOST_STATEMENTS
room_next case given s passes = has_room case given s (each_passes (checks case given s) passes)

pub fresh_next : {case : Case} {statements left : List Statement} {given : Network} {number : ℕ} {e : Entry}
    → IsComplete case
    → Reads (grammar case) statements left given number → (s : Statement)
    → first_failing (checks case given s) ≡ None → entry_in case given s ≡ Some e
    → IsFresh given e
fresh_next {case} {given = given} complete reads s passes gives =
    let shape = shape_so_far (StaysValid-IsComplete case complete) reads.give in
    (adds_next shape s (each_passes (checks case given s) passes) gives).fresh

-- ---- want of memory is no outcome

pub no_outcome : {V : Type 0} (case : Case) (statements : List Statement) (r : Result V NetFault)
    → IsErrAnd r (λ f. f ≡ fault.OutOfMemory)
    → IfErr r (λ f. IsOutcome case statements (Err f))
no_outcome case statements (Ok v) h = tt
no_outcome case statements (Err f) h = subst (λ (g : NetFault). IsOutcome case statements (Err g)) (sym h) tt
