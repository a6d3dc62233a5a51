-- The statements of a printed network are of plain fields.
use Rattle.network_text.proofs.Words.{All-map, Case, Exchanger, Give, HasShape, IsLineOf, IsName-source_name, IsNetwork, IsNetworkOf, IsPlainField}
use Rattle.network_text.proofs.Words.{IsPlainStatement, IsSourceOf, Joins, Line, Network, Source, StaysValid, StaysValid-IsComplete, all_give_at, branch_name}
use Rattle.network_text.proofs.Words.{exchanger_name, exchangers_of, find_none, first_missing, get_or-range_with_len, grammar, is_missed, is_passed}
use Rattle.network_text.proofs.Words.{length-range_with_len, line_at, line_of, misses_pass, name_plain, no_value, nothing_gives, one_value, own_exchanger}
use Rattle.network_text.proofs.Words.{passages_of, plain_statement, range_with_len, same_passage, some_counted, source_name, start, statement_of}
use Rattle.network_text.proofs.Words.{statements-back, statements_of, text_of, word_plain}
use Rattle.std.proofs.Common.{All, Err, List, None, Ok, Some, [], ap, arith, codes, false, get_or, inl, inr, length, map, not, option_map, refl, slice_get}
use Rattle.std.proofs.Common.{subst, sym, take, ℕ, ◌+◌, ◌<◌, ◌∙◌, ◌≡◌}
use Rattle.network_text.proofs.ReadBack.Exchangers.{IsReadable, front, front-first, front-last}
use Rattle.network_text.proofs.ReadBack.Steps.{line_follows}
use Rattle.network_text.proofs.Printed.Fields.{any_name_plain, fraction_plain}
use Rattle.network_text.proofs.Printed.Lengths.{branch_named, exchanger_named}
use Rattle.network_text.proofs.Shaped.Law.{network-has_shape, network-keeps_counts}
use Rattle.network_text.specs.Laws.{GivenNetworksAreReadAgain, GivenNetworksAreTheOneOutcome, IsOneOutcomeOf, TextsGiveNoOther, TextsGiveTheirNetworks}
use Rattle.networks.proofs.OfShape.{exchanger_at}
use Rattle.networks.specs.declared.network.Line.TheVariants as line
use Rattle.network_text.specs.declared.fault.NetFault.TheVariants as fault
use Rattle.network_text.specs.declared.fault.NetWhy.TheVariants as why
use Rattle.stream_case.specs.declared.source.Source.TheVariants as source

module _ {case : Case} {network : Network} (valid : StaysValid case) (shape : HasShape case network) where
  branch_plain : (b : ℕ) → b < length network.branches → IsPlainField (branch_name network b)
  branch_plain b within = any_name_plain (branch_name network b) (branch_named shape b within)

  exchanger_plain : (number : ℕ) → number < length (exchangers_of network.lines)
      → IsPlainField (exchanger_name network number)
  exchanger_plain number within = name_plain (exchanger_name network number) (exchanger_named shape number within)

  source_plain : (s : Source) → IsSourceOf case s → IsPlainField (source_name case s)
  source_plain s is = name_plain (source_name case s) (IsName-source_name case valid.names s is)

  statement_plain : {index : ℕ} (l : Line) → IsLineOf case network index l
      → IsPlainStatement (statement_of case network l)
  statement_plain {index} (line.Exchanger name hot cold duty) of =
      let e = own_exchanger shape index name hot cold duty of.at.here in
      plain_statement _ _ (word_plain (codes "exchanger") (omega arith) refl) refl
      (name_plain name e.name, (source_plain hot of.known.0, (source_plain cold of.known.1, (fraction_plain duty e.duty.within, tt))))
  statement_plain (line.Split from first size second) of =
      plain_statement _ _ (word_plain (codes "split") (omega arith) refl) refl
      (branch_plain from of.known.0, (branch_plain first of.known.1, (fraction_plain size of.size.within, (branch_plain second of.known.2, tt))))
  statement_plain (line.Pass from exchanger to) of =
      plain_statement _ _ (word_plain (codes "pass") (omega arith) refl) refl
      (branch_plain from of.known.0, (exchanger_plain exchanger of.known.1, (branch_plain to of.known.2, tt)))
  statement_plain (line.Mix first second to) of = plain_statement _ _ (word_plain (codes "mix") (omega arith) refl) refl
      (branch_plain first of.known.0, (branch_plain second of.known.1, (branch_plain to of.known.2, tt)))
  statement_plain (line.End branch) of =
      plain_statement _ _ (word_plain (codes "end") (omega arith) refl) refl (branch_plain branch of.known, tt)

  pub statements_plain : All IsPlainStatement (map (statement_of case network) network.lines)
  statements_plain = All-map IsPlainStatement (statement_of case network) network.lines (λ k d within.
      statement_plain (get_or network.lines k d) (line_of shape k (get_or network.lines k d) (line_at network.lines k d within).here))

-- The text of a network is read as the network.

-- ---- the statements, one after the other

front-start : {case : Case} {network : Network} → IsReadable case network → front case network 0 ≡ start case
unfolding start
front-start readable =
    let branches = front-first readable.shape.made_once in
    λ i. record { branches = branches i; lines = [] }

statements_give : {case : Case} {network : Network} → IsReadable case network
    → Give (grammar case) (map (statement_of case network) network.lines) network
statements_give {case} {network} readable =
    let follows = λ (i : ℕ) (l : Line) (at : slice_get network.lines i ≡ Some l). line_follows readable l (line_of readable.shape i l at) in
    let first = nothing_gives (grammar case) (front case network 0) (front-start readable) in
    subst (Give (grammar case) (map (statement_of case network) network.lines)) (front-last readable.shape.made_once)
    (all_give_at (grammar case) (statement_of case network) (front case network) [] network.lines follows first)

-- ---- no pass is missing

none_missed : {case : Case} {network : Network} → HasShape case network → (number : ℕ) (e : Exchanger)
    → slice_get (exchangers_of network.lines) number ≡ Some e
    → (s : Source) → ((stream : ℕ) → s ≡ source.Stream stream → Joins e stream) → is_missed network number s ≡ false
unfolding is_passed
none_missed shape number e at (source.Utility i) joins = refl
none_missed {network = network} shape number e at (source.Stream i) joins =
    let once = shape.passed_once number i e at (joins i refl) in
    ap not (some_counted (same_passage (record { exchanger = number; stream = i })) (passages_of network.branches network.lines) (omega (arith, once)))

no_side_missed : {case : Case} {network : Network} → HasShape case network → (index : ℕ) (l : Line)
    → slice_get network.lines index ≡ Some l
    → misses_pass network index ≡ false
unfolding misses_pass
no_side_missed {network = network} shape index (line.Exchanger name hot cold duty) here =
    let e : Exchanger = record { name = name; hot = hot; cold = cold; duty = duty } in
    let number = length (exchangers_of (take index network.lines)) in
    let at = exchanger_at network.lines index name hot cold duty here in
    let no_hot = none_missed shape number e at hot (λ stream is. inl is) in
    let no_cold = none_missed shape number e at cold (λ stream is. inr is) in
    rw (here, no_hot, no_cold) refl
no_side_missed shape index other here = rw here refl

none-missing : {case : Case} {network : Network} → HasShape case network → first_missing network ≡ None
unfolding first_missing
none-missing {network = network} shape =
    find_none (misses_pass network) (range_with_len 0 (length network.lines)) (λ k d within.
    let inside : k < length network.lines = omega (arith, within, length-range_with_len 0 (length network.lines)) in
    let number : get_or (range_with_len 0 (length network.lines)) k d ≡ k
    = get_or-range_with_len 0 (length network.lines) k d inside ∙ omega arith in
    ap (misses_pass network) number
    ∙ no_side_missed shape k (get_or network.lines k (line.End 0)) (line_at network.lines k (line.End 0) inside).here)

-- ---- the text

-- a network of the shape is what the grammar gives for its text, where the text is not too long
pub shape-is_network : TextsGiveTheirNetworks
unfolding text_of
shape-is_network case network complete shape counts =
    let valid = StaysValid-IsComplete case complete in
    let give = statements_give (let readable : IsReadable case network = record { valid = valid; shape = shape; counts = counts } in readable) in
    let is : IsNetwork case (map (statement_of case network) network.lines) network = record {
      sound = give.sound;
      complete = ap (λ n. option_map (λ index. (index + 1, why.MissingPass)) (first_missing n)) (sym give.given_is)
          ∙ ap (option_map (λ index. (index + 1, why.MissingPass))) (none-missing shape);
      value_is = give.given_is;
    } in
    let back = statements-back (map (statement_of case network) network.lines) (statements_plain valid shape) in
    subst (λ statements. IsNetwork case statements network) (sym back) is

-- ---- what is printed is read again

-- where there is a network, it is the one outcome
one_network : (case : Case) (text : List ℕ) (network : Network) → IsNetworkOf case text network
    → IsOneOutcomeOf case text network
one_network case text network is (Ok other) outcome =
    inl (ap Ok (one_value (grammar case) (statements_of text) other network outcome is))
one_network case text network is (Err (fault.At number cause)) outcome =
    absurd (no_value (grammar case) (statements_of text) number cause network outcome is)
one_network case text network is (Err fault.OutOfMemory) outcome = inr refl

pub shape-once : TextsGiveNoOther
shape-once case network complete shape counts =
    one_network case (text_of case network) network (shape-is_network case network complete shape counts)

pub printed-again : GivenNetworksAreReadAgain
printed-again case statements network complete is =
    shape-is_network case network complete (network-has_shape case statements network complete is) (network-keeps_counts case statements network is)

pub printed-once : GivenNetworksAreTheOneOutcome
printed-once case statements network complete is =
    one_network case (text_of case network) network (printed-again case statements network complete is)
