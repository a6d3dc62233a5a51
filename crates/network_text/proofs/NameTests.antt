-- The tests of names of branches.
use Rattle.network_text.proofs.Words.{IsAnyName, and_parts, false_from_ne_true, is_branch_name, is_dotted_name, name-passes, or_right, passed-name}
use Rattle.std.proofs.Common.{Bool, IfSome, List, None, Option, Some, SomeIff, [], ap, eqb-true, false, inl, inr, is_some, refl, sym, true, ℕ, ◌==◌, ◌||◌, ◌∙◌}
use Rattle.std.proofs.Common.{◌∷◌, ◌≡◌}
use Rattle.stream_case.specs.Name.{IsDottedName, is_name}

dotted-passes : (text : List ℕ) → IsDottedName text → is_dotted_name text ≡ true
unfolding is_dotted_name
dotted-passes [] h = absurd h
dotted-passes (b ∷ bs) h =
    let dot : (b == 46) ≡ true = ap (λ n. n == 46) h.0 in
    rw (dot, name-passes bs h.1) refl

passed-dotted : (text : List ℕ) → is_dotted_name text ≡ true → IsDottedName text
unfolding is_dotted_name
passed-dotted [] e = cc e
passed-dotted (b ∷ bs) e = let h = and_parts _ _ e in (eqb-true _ _ h.0, passed-name bs h.1)

-- ---- names of branches

pub branch_name-passes : (text : List ℕ) → IsAnyName text → is_branch_name text ≡ true
unfolding is_branch_name
branch_name-passes text (inl h) = rw (name-passes text h) refl
branch_name-passes text (inr h) = or_right (is_name text) (is_dotted_name text) (dotted-passes text h)

pub passed-branch_name : (text : List ℕ) → is_branch_name text ≡ true → IsAnyName text
unfolding is_branch_name
passed-branch_name text e = by (is_name text) (is_dotted_name text) refl refl e
  where
    by : (a b : Bool) → is_name text ≡ a → is_dotted_name text ≡ b → (a || b) ≡ true → IsAnyName text
    by true b name dotted e = inl (passed-name text name)
    by false true name dotted e = inr (passed-dotted text dotted)
    by false false name dotted e = cc e

pub no_name-fails : (text : List ℕ) → (IsAnyName text → ⊥) → is_branch_name text ≡ false
no_name-fails text never = false_from_ne_true _ (λ passes. never (passed-branch_name text passes))

-- an undotted name is one for a branch
pub name-branch_name : (text : List ℕ) → is_name text ≡ true → is_branch_name text ≡ true
unfolding is_branch_name
name-branch_name text e = rw e refl

-- what making a name says
pub name_made : (o : Option (List ℕ)) (text : List ℕ) → SomeIff o (IsAnyName text) text
    → is_some o ≡ is_branch_name text
name_made None text h = sym (no_name-fails text h)
name_made (Some name) text h = sym (branch_name-passes text h.0)

-- an undotted name that was made may also name a branch
pub name_given : (o : Option (List ℕ)) (text : List ℕ) → is_some o ≡ is_name text → IfSome o (λ name. name ≡ text)
    → IfSome o (λ name. is_branch_name name ≡ true)
name_given None text some is = is
name_given (Some name) text some is = ap is_branch_name is ∙ name-branch_name text (sym some)
