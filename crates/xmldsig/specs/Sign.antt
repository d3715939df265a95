-- What the words of `sign` come to over the files that a folder holds, and the names that it asks for: the document first, then the
-- key file, then the catalog, then the files of the References.
use Rattle.std.specs.Prelude.{ℕ, false, List, ◌∷◌, ◌++◌, encode_utf8_all, Result}
use Rattle.sig_base.specs.Outcomes.{and_then, with_cause}
use Rattle.sig_outside.specs.Told.{Held}
use Rattle.digests_hmac.specs.KeyEntries.{KeyEntry}
use Rattle.dsig_fields.specs.Keys.{QuestionOf}
use Rattle.transforms.specs.Asked.{or_nothing}
use Rattle.signer.specs.Asked.{names_asked}
use Rattle.signer.specs.Outcome.{outcome}
use Rattle.signer.specs.declared.refusal.SignRefusal.{SignRefusal}
use Rattle.signer.specs.declared.refusal.SignRefusal.TheVariants as signing
use Rattle.job_words.specs.declared.job.Asked.{Asked}
use Rattle.xmldsig.specs.Files as file
use Rattle.xmldsig.specs.Validation.{question_for}
use Rattle.xmldsig.specs.declared.ending.Refusal.{Refusal}
use Rattle.xmldsig.specs.declared.ending.Refusal.TheVariants as refusal

-- a template that can't be read is a document that can't be read
abbrev pub sign_cause : SignRefusal → Refusal
sign_cause (signing.Read cause) = refusal.Read cause
sign_cause cause = refusal.Sign cause

-- the template filled in (XML Signature 1.1, section 3.1)
abbrev pub document_outcome : List ℕ → QuestionOf → Held → Result (List ℕ) Refusal
document_outcome bytes question files = with_cause sign_cause (outcome bytes question files)

abbrev pub outcome_behind_keys : Asked → List ℕ → List KeyEntry → Held → Result (List ℕ) Refusal
outcome_behind_keys asked bytes keys files =
    and_then (file.catalog_outcome asked.catalog files) (λ catalog. document_outcome bytes (question_for asked false keys catalog) files)

abbrev pub outcome_behind_document : Asked → List ℕ → Held → Result (List ℕ) Refusal
outcome_behind_document asked bytes files =
    and_then (file.keys_outcome asked.keys files) (λ keys. outcome_behind_keys asked bytes keys files)

-- the octets that are signed, or the first refusal
abbrev pub signing_outcome : Asked → Held → Result (List ℕ) Refusal
signing_outcome asked files =
    and_then (file.document_outcome asked.doc files) (λ bytes. outcome_behind_document asked bytes files)

-- ---- the names, up to the first refusal

abbrev pub names_behind_keys : Asked → List ℕ → List KeyEntry → Held → List (List ℕ)
names_behind_keys asked bytes keys files =
    file.catalog_names asked.catalog
    ++ or_nothing (file.catalog_outcome asked.catalog files) (λ catalog. names_asked bytes (question_for asked false keys catalog) files)

abbrev pub names_behind_document : Asked → List ℕ → Held → List (List ℕ)
names_behind_document asked bytes files =
    encode_utf8_all asked.keys ∷ or_nothing (file.keys_outcome asked.keys files) (λ keys. names_behind_keys asked bytes keys files)

abbrev pub signing_names : Asked → Held → List (List ℕ)
signing_names asked files =
    encode_utf8_all asked.doc ∷ or_nothing (file.document_outcome asked.doc files) (λ bytes. names_behind_document asked bytes files)
