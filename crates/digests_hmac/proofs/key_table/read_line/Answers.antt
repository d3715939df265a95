use Rattle.std.proofs.Common.{lit<, sym}
use Rattle.std.proofs.lemmas.Str.Pattern.{split_once_first}
use Rattle.digests_hmac.proofs.KeyLaws.{read-not_utf8, read-skipped, read-no_space, read-no_digits, read-no_name, read-key}
use Rattle.digests_hmac.proofs.key_table.read_line.Goals as goal

pub returns-in_default : goal.returns-in_default
returns-in_default c = read-not_utf8 c.args.number c.args.line.now _ c.in_default.ensures.cases.0

pub returns-then-is_skipped : goal.returns-then-is_skipped
returns-then-is_skipped c = read-skipped c.args.number c.args.line.now _ c.in-Ok.ensures.cases.1 (sym c.if-is_skipped.ensures)

pub returns-in_default-split_once : goal.returns-in_default-split_once
returns-in_default-split_once c =
    let parts = split_once_first 32 c.in-Ok.text.now c.split_once.result c.split_once.ensures.cases (lit< tt) in
    let none = rw c.in-Ok.ensures.cases.0 at (rw c.in_default-split_once.is at parts) in
    read-no_space c.args.number c.args.line.now _ c.in-Ok.ensures.cases.1 (sym c.if-is_skipped.ensures) none

pub returns-then-not-is_key_digits : goal.returns-then-not-is_key_digits
returns-then-not-is_key_digits c =
    let parts = split_once_first 32 c.in-Ok.text.now c.split_once.result c.split_once.ensures.cases (lit< tt) in
    let split = rw c.in-Ok.ensures.cases.0 at (rw c.in-Some.is at parts) in
    let digits = rw (c.as_bytes.ensures.value, split.1) at (sym c.if-not-is_key_digits.ensures) in
    read-no_digits c.args.number c.args.line.now _ c.in-Ok.ensures.cases.1 (sym c.if-is_skipped.ensures) split.0 digits

pub returns-then-not-is_key_name : goal.returns-then-not-is_key_name
returns-then-not-is_key_name c =
    let parts = split_once_first 32 c.in-Ok.text.now c.split_once.result c.split_once.ensures.cases (lit< tt) in
    let split = rw c.in-Ok.ensures.cases.0 at (rw c.in-Some.is at parts) in
    let digits = rw (c.as_bytes.ensures.value, split.1) at (sym c.if-not-is_key_digits.ensures) in
    let name = rw (c.as_bytes-2.ensures.value, split.2) at (sym c.if-not-is_key_name.ensures) in
    read-no_name c.args.number c.args.line.now _ c.in-Ok.ensures.cases.1 (sym c.if-is_skipped.ensures) split.0 digits name

pub returns : goal.returns
returns c =
    let parts = split_once_first 32 c.in-Ok.text.now c.split_once.result c.split_once.ensures.cases (lit< tt) in
    let split = rw c.in-Ok.ensures.cases.0 at (rw c.in-Some.is at parts) in
    let digits = rw (c.as_bytes.ensures.value, split.1) at (sym c.if-not-is_key_digits.ensures) in
    let name = rw (c.as_bytes-2.ensures.value, split.2) at (sym c.if-not-is_key_name.ensures) in
    let added = rw (c.as_bytes-3.ensures.value, split.1, split.2) at c.add_key.ensures in
    rw (read-key c.args.number c.args.line.now _ c.in-Ok.ensures.cases.1 (sym c.if-is_skipped.ensures) split.0 digits name) added
