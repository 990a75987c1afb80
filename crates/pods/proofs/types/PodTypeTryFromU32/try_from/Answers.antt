use Rattle.std.proofs.Common.{◌≡◌, Err, sym, refl, rules}
use Rattle.refusals.specs.declared.Why.TheVariants.{UnknownType}
use Rattle.kinds.proofs.Types.{type_of_kind}
use Rattle.pods.proofs.Numbers.{no_type}
use Rattle.pods.proofs.types.PodTypeTryFromU32.try_from.Goals as goal

pub returns-in_err-try_from-in_default : goal.returns-in_err-try_from-in_default
returns-in_err-try_from-in_default c =
    let answer : c.from_residual.result ≡ Err UnknownType = search rules in
    rw answer
    (no_type c.args.number (search rules) (search rules) (search rules) (search rules) (search rules) (search rules) (search rules) (search rules), refl)

pub returns-in_ok-try_from-in_default : goal.returns-in_ok-try_from-in_default
returns-in_ok-try_from-in_default c = sym (type_of_kind c.args.number c.in_ok-try_from-in_default.field-0 (sym c.in_ok-try_from-in_default.ensures))
