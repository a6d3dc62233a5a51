-- A name is ASCII, so it is a text.
use Rattle.std.proofs.Common.{subst, sym}
use Rattle.stream_case.proofs.NameLemmas.{IsOk-of_match, IsUtf8-IsAnyName}
use Rattle.stream_case.proofs.Words.{IsAnyName}
use Rattle.stream_case.proofs.name.Name.as_str.Goals as goal

pub unwrap-requires : goal.unwrap-requires
unwrap-requires c =
    let named : IsAnyName c.as_bytes.result.now
    = subst IsAnyName (sym c.as_bytes.ensures.value) c.as_bytes.ensures.grammar in
    IsOk-of_match c.from_utf8.result _ _ c.from_utf8.ensures.cases (λ e bad. bad.0 (IsUtf8-IsAnyName c.as_bytes.result.now named))
