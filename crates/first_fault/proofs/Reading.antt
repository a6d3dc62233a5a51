-- Reading items one after the other, as a loop does.
use Rattle.first_fault.proofs.Steps.{Give, fault_at-front, fault_at-seam, nothing_gives, one_more_gives}
use Rattle.first_fault.specs.Checks.{first_failing}
use Rattle.first_fault.specs.Outcome.{Grammar, IsFault, IsValue}
use Rattle.std.proofs.Common.{List, None, Some, [], ap, append-nil, append_assoc, inl, inr, length, length-append, refl, sym, ℕ, ◌++◌, ◌+◌, ◌∙◌, ◌∷◌, ◌≡◌}

-- so many of the items are read, none of which is at fault, they gave this, and these items are left
pub record Reads {Item Given Value Cause : Type 0} (grammar : Grammar Item Given Value Cause) (items left : List Item) (given : Given)
    (number : ℕ) : Type 0 where
  pub done : List Item
  pub items_are : items ≡ done ++ left
  pub number_is : number ≡ length done
  pub give : Give grammar done given

module _ {Item Given Value Cause : Type 0} {grammar : Grammar Item Given Value Cause} {items left : List Item} {given : Given} {number : ℕ}
    (reads : Reads grammar items left given number) where
  -- the next item is not at fault
  pub one_more : {item : Item} {rest : List Item} {next : Given} → left ≡ item ∷ rest
      → first_failing (grammar.checks given item) ≡ None
      → next ≡ grammar.next given item → Reads grammar items rest next (number + 1)
  one_more {item = item} {rest = rest} {next = next} at passes next_is = record {
    done = reads.done ++ item ∷ [];
    items_are = reads.items_are ∙ ap (λ l. reads.done ++ l) at ∙ sym (append_assoc reads.done (item ∷ []) rest);
    number_is = ap (λ n. n + 1) reads.number_is ∙ sym (length-append reads.done (item ∷ []));
    give = one_more_gives grammar reads.done given item next reads.give (record { passes = passes; next_is = next_is });
  }

  -- the next item is
  pub fault_here : {item : Item} {rest : List Item} {cause : Cause} → left ≡ item ∷ rest
      → first_failing (grammar.checks given item) ≡ Some cause
      → IsFault grammar items (number + 1) cause
  fault_here {item = item} {rest = rest} at fault =
      let all = reads.items_are ∙ ap (λ l. reads.done ++ l) at in
      inl (
        length reads.done,
        ap (λ n. n + 1) reads.number_is,
        rw all (record {
          before = λ k within. fault_at-front grammar reads.done (item ∷ rest) k within ∙ reads.give.sound k within;
          cause_is =
              fault_at-seam grammar reads.done item rest
              ∙ ap (λ g. first_failing (grammar.checks g item)) (sym reads.give.given_is) ∙ fault;
        }),
      )

  -- no item is left
  all_read : left ≡ [] → Give grammar items given × (number ≡ length items)
  all_read none =
      let all = reads.items_are ∙ ap (λ l. reads.done ++ l) none ∙ append-nil reads.done in
      rw all (reads.give, reads.number_is)

  pub end_here : {at : ℕ} {cause : Cause} → left ≡ [] → grammar.end_fault number given ≡ Some (at, cause)
      → IsFault grammar items at cause
  end_here none fault =
      let (give, is) = all_read none in
      inr (record { sound = give.sound; fault_is = (λ i. grammar.end_fault (sym is i) (sym give.given_is i)) ∙ fault })

  pub value_here : {value : Value} → left ≡ [] → grammar.end_fault number given ≡ None
      → value ≡ grammar.value given → IsValue grammar items value
  value_here none complete is_value =
      let (give, is) = all_read none in
      record {
        sound = give.sound;
        complete = (λ i. grammar.end_fault (sym is i) (sym give.given_is i)) ∙ complete;
        value_is = is_value ∙ ap grammar.value give.given_is;
      }

-- before the first item
pub none_read : {Item Given Value Cause : Type 0} {grammar : Grammar Item Given Value Cause} (items : List Item) {given : Given}
    → given ≡ grammar.start
    → Reads grammar items items given 0
none_read {grammar = grammar} items {given = given} is =
    record { done = []; items_are = refl; number_is = refl; give = nothing_gives grammar given is }
