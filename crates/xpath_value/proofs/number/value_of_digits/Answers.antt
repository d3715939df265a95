use Rattle.std.proofs.Common.{◌≡◌, true, false, arith}
use Rattle.std.specs.Str.{chars}
use Rattle.xpath_value.specs.Characters.{is_empty}
use Rattle.xpath_value.proofs.Digits.{none_value, parsed, too_great}
use Rattle.xpath_value.proofs.number.value_of_digits.Goals as goal

pub returns-then-is_empty : goal.returns-then-is_empty
returns-then-is_empty c =
    let e : is_empty (chars c.args.digits.now) ≡ true = cc in (omega arith, none_value _ e)

pub returns-then-value-le-GREATEST : goal.returns-then-value-le-GREATEST
returns-then-value-le-GREATEST c =
    let e : is_empty (chars c.args.digits.now) ≡ false = cc in
    (omega arith, parsed _ _ c.utf8.digits c.requires e c.in-Ok.ensures.value.0)

pub returns-else-value-le-GREATEST : goal.returns-else-value-le-GREATEST
returns-else-value-le-GREATEST c =
    let e : is_empty (chars c.args.digits.now) ≡ false = cc in
    (omega (arith, parsed _ _ c.utf8.digits c.requires e c.in-Ok.ensures.value.0), cc)

pub returns-in-Err : goal.returns-in-Err
returns-in-Err c =
    let e : is_empty (chars c.args.digits.now) ≡ false = cc in
    (omega (arith, too_great _ c.utf8.digits c.requires e c.in-Err.ensures.value.0), cc)
