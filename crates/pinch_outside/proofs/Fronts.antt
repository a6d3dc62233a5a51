-- Fronts of bytes that were written.
use Rattle.pinch_outside.specs.Sink.{AppendsFront}
use Rattle.std.proofs.Common.{List, Option, [], ap, append-nil, append_assoc, arith, drop, length, length-append, length-drop, refl, subst, sym, take}
use Rattle.std.proofs.Common.{take-append-drop, ℕ, ◌++◌, ◌-◌, ◌∙◌, ◌≡◌}
use Rattle.std.proofs.KnownBytes.{Appends-kept, Appends-nil, Appends-trans}
use Rattle.std.proofs.lemmas.List.{take_all, take_at}
use Rattle.std.specs.Io.KnownBytes.{Appends, Keeps}

-- of the bytes all but the rest was written
pub record Wrote (old now : Option (List ℕ)) (bytes rest : List ℕ) : Type 0 where
  pub done : List ℕ
  pub split : bytes ≡ done ++ rest
  pub appended : Appends old now done

pub Wrote-none : (old : Option (List ℕ)) (bytes : List ℕ) → Wrote old old bytes bytes
Wrote-none old bytes = record { done = []; split = refl; appended = Appends-nil old }

-- a write of n bytes more, after which the rest is `&rest[n..]`
pub Wrote-more : (old now next : Option (List ℕ)) (bytes rest : List ℕ) (m n : ℕ) → m ≡ length rest
    → Wrote old now bytes rest → Appends now next (take n rest)
    → Wrote old next bytes (take (m - n) (drop n rest))
Wrote-more old now next bytes rest m n size wrote more =
    rw (take_all (m - n) (drop n rest) (omega (arith, size, length-drop n rest))) (record {
      done = wrote.done ++ take n rest;
      split =
          wrote.split ∙ ap (λ l. wrote.done ++ l) (sym (take-append-drop n rest))
          ∙ sym (append_assoc wrote.done (take n rest) (drop n rest));
      appended = Appends-trans old now next _ _ wrote.appended more;
    })

pub Wrote-front : (old now next : Option (List ℕ)) (bytes rest : List ℕ) → Wrote old now bytes rest
    → Keeps now next → AppendsFront old next bytes
Wrote-front old now next bytes rest wrote keeps = record {
  count = length wrote.done;
  within = omega (arith, ap length wrote.split, length-append wrote.done rest);
  front =
      let front : wrote.done ≡ take (length wrote.done) bytes =
      sym (ap (λ l. take (length wrote.done) l) wrote.split ∙ take_at wrote.done rest (length wrote.done) refl) in
      subst (Appends old next) front (Appends-kept old now next _ wrote.appended keeps);
}

pub Wrote-all : (old now : Option (List ℕ)) (bytes rest : List ℕ) → Wrote old now bytes rest → rest ≡ []
    → Appends old now bytes
Wrote-all old now bytes rest wrote end =
    subst (Appends old now) (sym (wrote.split ∙ ap (λ l. wrote.done ++ l) end ∙ append-nil wrote.done)) wrote.appended
