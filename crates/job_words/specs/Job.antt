-- The job that a list of words names, command by command. This project's own command line.
use Rattle.std.specs.Prelude.{◌&&◌, ◌||◌, ℕ, Bool, not, List, [], ◌∷◌, Option, Some, None, is_some, if◌then◌else◌, codes, bytes_eq, option_map}
use Rattle.std.specs.Str.{chars}
use Rattle.std.specs.Result.{result_ok}
use Rattle.url.specs.Parts.{Parts}
use Rattle.sig_base.specs.Methods.{is_exclusive}
use Rattle.sig_base.specs.Options.{◌>>=◌}
use Rattle.sig_base.specs.Prefixes.{names_in}
use Rattle.sig_base.specs.declared.method.CanonMethod.{CanonMethod}
use Rattle.sig_base.specs.declared.method.DigestMethod.{DigestMethod}
use Rattle.sig_base.specs.declared.method.DigestMethod.TheVariants.{Sha256}
use Rattle.sig_base.specs.declared.method.MacMethod.{MacMethod}
use Rattle.sig_base.specs.declared.method.MacMethod.TheVariants.{HmacSha256}
use Rattle.uri_refs.specs.Bases.{base_of}
use Rattle.job_words.specs.Given.{Options, Given, given_by, has_name, value_of}
use Rattle.job_words.specs.Values.{canon_named, digest_named, key_name, mac_named, number_between}
use Rattle.job_words.specs.declared.job.Asked.{Asked}
use Rattle.job_words.specs.declared.job.Job.{Job}
use Rattle.job_words.specs.declared.job.Job.TheVariants as job
use Rattle.job_words.specs.declared.options.Takes.TheVariants.{Value, Nothing}

-- the one word that is no option
abbrev pub the_word : List Given → Option (List ℕ)
the_word given = value_of [] given

-- a text as it stands
abbrev pub text_of : (name : List ℕ) → List Given → Option (List ℕ)
text_of name given = option_map chars (value_of name given)

-- a value that may be left out, but must be read where it stands
abbrev pub optional : {A : Type 0} → (List ℕ → Option A) → Option (List ℕ) → Option (Option A)
optional reading None = Some None
optional reading (Some value) = option_map Some (reading value)

-- the same, with what stands for a value that is left out
abbrev pub or_default : {A : Type 0} → A → (List ℕ → Option A) → Option (List ℕ) → Option A
or_default x reading None = Some x
or_default x reading (Some value) = reading value

abbrev pub key_in : List Given → Option (Option (List ℕ))
key_in given = optional key_name (value_of (codes "key") given)

-- ---- validate and sign

abbrev pub index_in : List Given → Option ℕ
index_in given = or_default 1 (number_between 1 1000000) (value_of (codes "index") given)

-- the base to which URIs are joined: where none is given, a URL of no host (RFC 6761, section 6.4)
abbrev pub default_base : List ℕ
default_base = codes "https://folder.invalid/"

abbrev pub base_by : Option (List ℕ) → Option Parts
base_by None = result_ok (base_of default_base)
base_by (Some text) = result_ok (base_of text)

abbrev pub base_in : List Given → Option Parts
base_in given = base_by (value_of (codes "base") given)

abbrev pub asked_options : Options
asked_options = (codes "keys", Value) ∷ (codes "key", Value) ∷ (codes "index", Value) ∷ (codes "base", Value) ∷ (codes "catalog", Value)
    ∷ []

unfoldable pub asked_in : List Given → Option Asked
asked_in given = do
  doc ← text_of [] given
  keys ← text_of (codes "keys") given
  key ← key_in given
  index ← index_in given
  base ← base_in given
  Some (record { doc = doc; keys = keys; key = key; index = index; base = base; catalog = text_of (codes "catalog") given })

abbrev pub validate_options : Options
validate_options = (codes "keys", Value) ∷ (codes "key", Value) ∷ (codes "index", Value) ∷ (codes "base", Value) ∷ (codes "catalog", Value)
    ∷ (codes "views", Value) ∷ (codes "manifests", Nothing) ∷ []

unfoldable pub validate_job : List (List ℕ) → Option Job
validate_job words = do
  given ← given_by validate_options words
  asked ← asked_in given
  Some (job.Validate asked (text_of (codes "views") given) (has_name (codes "manifests") given))

unfoldable pub sign_job : List (List ℕ) → Option Job
sign_job words = do
  given ← given_by asked_options words
  asked ← asked_in given
  Some (job.Sign asked)

-- ---- canon

abbrev pub canon_options : Options
canon_options = (codes "method", Value) ∷ (codes "id", Value) ∷ (codes "xpath", Value) ∷ (codes "prefixes", Value) ∷ []

-- prefixes are given to an exclusive method alone
abbrev pub prefixes_for : CanonMethod → Option (List ℕ) → Option (List (List ℕ))
prefixes_for method None = Some []
prefixes_for method (Some list) = if is_exclusive method then Some (names_in list) else None

abbrev pub method_in : List Given → Option CanonMethod
method_in given = value_of (codes "method") given >>= canon_named

abbrev pub prefixes_in : CanonMethod → List Given → Option (List (List ℕ))
prefixes_in method given = prefixes_for method (value_of (codes "prefixes") given)

-- an ID and an expression exclude each other
abbrev pub unless_both : {A B C : Type 0} → Option A → Option B → (Option A → Option B → C) → Option C
unless_both a b make = if is_some a && is_some b then None else Some (make a b)

unfoldable pub canon_job : List (List ℕ) → Option Job
canon_job words = do
  given ← given_by canon_options words
  doc ← text_of [] given
  method ← method_in given
  prefixes ← prefixes_in method given
  unless_both (text_of (codes "id") given) (text_of (codes "xpath") given) (λ id xpath. job.Canon doc method id xpath prefixes)

-- ---- template and selftest

abbrev pub template_options : Options
template_options = (codes "method", Value) ∷ (codes "digest", Value) ∷ (codes "key", Value) ∷ []

abbrev pub mac_in : List Given → Option MacMethod
mac_in given = or_default HmacSha256 mac_named (value_of (codes "method") given)

abbrev pub digest_in : List Given → Option DigestMethod
digest_in given = or_default Sha256 digest_named (value_of (codes "digest") given)

unfoldable pub template_job : List (List ℕ) → Option Job
template_job words = do
  given ← given_by template_options words
  doc ← text_of [] given
  mac ← mac_in given
  digest ← digest_in given
  key ← key_in given
  Some (job.Template doc mac digest key)

unfoldable pub selftest_job : List (List ℕ) → Option Job
selftest_job words = do
  given ← given_by [] words
  word ← the_word given
  paragraphs ← number_between 1 100000 word
  Some (job.SelfTest paragraphs)

-- ---- the command is the first word

abbrev pub command_job : (command : List ℕ) → List (List ℕ) → Option Job
command_job command words =
    if bytes_eq command (codes "validate") then validate_job words
    else (if bytes_eq command (codes "sign") then sign_job words
    else (if bytes_eq command (codes "canon") then canon_job words
    else (if bytes_eq command (codes "template") then template_job words
    else (if bytes_eq command (codes "selftest") then selftest_job words else None))))

abbrev pub job_of : List (List ℕ) → Option Job
job_of [] = None
job_of (command ∷ words) = command_job command words
