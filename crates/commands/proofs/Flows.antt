-- What answers a case is shown as a proof.
use Rattle.commands.proofs.Words.{Answer, AnswersFlow, AreCaseParts, Case, IsCaseAnswer, IsProofOf, Parts, Shown, reach_between, shown_answer}
use Rattle.std.proofs.Common.{refl, subst, sym, ◌≡◌}
use Rattle.transport.specs.Answer.{IsAnswer}
use Rattle.transport.specs.declared.answer.Answer.TheVariants as answer

answer_proof : (c : Case) (parts : Parts) (a : Answer) → AreCaseParts c parts.hot parts.cold
    → IsAnswer (reach_between c parts.hot parts.cold) parts.hot parts.cold a → IsProofOf c (shown_answer c parts a)
answer_proof c parts (answer.Least flow prices cost) are is = (refl, are, is.certified)
answer_proof c parts (answer.Stuck cut) are is = (refl, are, is.cut)

pub answered : (c : Case) (parts : Parts) (a : Answer) (shown : Shown) → IsCaseAnswer c parts a
    → shown ≡ shown_answer c parts a → AnswersFlow c shown
answered c parts a shown is_answer is = record {
  parts = parts;
  answer = a;
  is_answer = is_answer;
  is = is;
  proof = subst (IsProofOf c) (sym is) (answer_proof c parts a is_answer.parts_are is_answer.answers);
}
