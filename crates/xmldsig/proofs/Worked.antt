-- The definitions of a run at examples.
use Rattle.std.proofs.Common.{◌≡◌, refl, true, false, [], ◌∷◌, None, Err}
use Rattle.std.specs.Prelude.{codes}
use Rattle.std.specs.Char.{encode_utf8}
use Rattle.std.specs.Fmt.{digits}
use Rattle.std.specs.List.{flat_map}
use Rattle.sig_base.specs.declared.method.CanonMethod.TheVariants.{C10}
use Rattle.sig_base.specs.declared.method.DigestMethod.TheVariants.{Sha256}
use Rattle.sig_base.specs.declared.method.MacMethod.TheVariants.{HmacSha256}
use Rattle.sig_outside.specs.Told.{Held}
use Rattle.digests_hmac.specs.declared.key_table.KeyFault.TheVariants as key
use Rattle.dsig_fields.specs.declared.names.ElementName.TheVariants as element
use Rattle.dsig_fields.specs.declared.refusal.FieldRefusal.TheVariants as field
use Rattle.transforms.specs.declared.outcome.Report.TheVariants.{ShortTruncation, Valid, DigestsDiffer}
use Rattle.transforms.specs.declared.outcome.ValidateRefusal.TheVariants as validation
use Rattle.transforms.specs.declared.refusal.RefRefusal.TheVariants as target
use Rattle.job_words.specs.declared.job.Job.TheVariants as job
use Rattle.manifests.specs.Manifests.{line}
use Rattle.manifests.specs.declared.lines.ManifestKind.TheVariants as manifest
use Rattle.signer.specs.declared.refusal.SignRefusal.TheVariants as signing
use Rattle.xml_read.specs.declared.read.ReadRefusal.TheVariants as read
use Rattle.xmldsig.specs.Outcome.{names_asked, run_outcome}
use Rattle.xmldsig.specs.Manifests.{are_told}
use Rattle.xmldsig.specs.Texts.{manifest_line, refusal_line, report_text, validated_text, view_fault_line}
use Rattle.xmldsig.specs.declared.ending.Refusal.TheVariants as refusal

abbrev holds_nothing : Held
holds_nothing name = None

-- without the document nothing more is asked for
worked_no_document : run_outcome (job.Canon (codes "d.xml") C10 None None []) holds_nothing ≡ Err refusal.NoDocument
unfolding encode_utf8
worked_no_document = refl

worked_names : names_asked (job.Canon (codes "d.xml") C10 None None []) holds_nothing ≡ codes "d.xml" ∷ []
unfolding encode_utf8
worked_names = refl

-- neither a template nor a signature is had without the document
worked_no_template : run_outcome (job.Template (codes "d.xml") HmacSha256 Sha256 None) holds_nothing ≡ Err refusal.NoDocument
unfolding encode_utf8
worked_no_template = refl

-- a self-test asks for nothing
worked_self_test_names : names_asked (job.SelfTest 1) holds_nothing ≡ []
worked_self_test_names = refl

worked_valid : report_text
    (Valid (record { lengths = 74 ∷ 0 ∷ []; octets = [] })) ≡ codes "valid\nreference 1 octets 74\nreference 2 octets 0\n"
unfolding digits
worked_valid = refl

worked_truncation : report_text (ShortTruncation 120) ≡ codes "invalid truncation 120\n"
unfolding digits
worked_truncation = refl

worked_digests : report_text (DigestsDiffer (1 ∷ 3 ∷ [])) ≡ codes "invalid digests 1 3\n"
unfolding digits
worked_digests = refl

-- the lines of Manifests stand behind those of the References
worked_entries : validated_text (record {
  report = Valid (record { lengths = 443 ∷ []; octets = [] });
  lines = line 1 1 manifest.Same ∷ line 1 2 manifest.Differs ∷ line 1 3 (manifest.Refused (target.NotBase64 1)) ∷ [];
}) ≡ codes "valid\nreference 1 octets 443\nmanifest 1 entry 1 same\nmanifest 1 entry 2 differs\nmanifest 1 entry 3 refused step 1 NotBase64\n"
unfolding digits
worked_entries = refl

worked_manifests : flat_map manifest_line
    (line 2 0 manifest.ManifestTransforms ∷ line 3 0 manifest.NotManifest ∷ line 4 0 (manifest.Fields (field.Missing element.Reference)) ∷ line 5 0 manifest.TooMany ∷ [])
    ≡ codes "manifest 2 transforms\nmanifest 3 not-manifest\nmanifest 4 fields Missing Reference\nmanifest 5 too-many\n"
unfolding digits
worked_manifests = refl

-- none are told beside a report that isn't valid, or where the words don't ask for them
worked_untold : are_told true (DigestsDiffer (1 ∷ [])) ≡ false
worked_untold = refl

worked_unasked : are_told false (Valid (record { lengths = []; octets = [] })) ≡ false
worked_unasked = refl

worked_missing : refusal_line (refusal.Validate (validation.Fields (field.Missing element.Reference))) ≡ codes "refused Missing Reference\n"
worked_missing = refl

worked_reference : refusal_line
    (refusal.Validate (validation.Reference 2 (target.NotBase64 1))) ≡ codes "refused reference 2 step 1 NotBase64\n"
unfolding digits
worked_reference = refl

worked_absent : refusal_line (refusal.Validate (validation.Reference 1 target.Absent)) ≡ codes "refused reference 1 Absent\n"
unfolding digits
worked_absent = refl

worked_keys : refusal_line (refusal.Keys (key.Repeated 2 1)) ≡ codes "refused KeyRepeated 2 1\n"
unfolding digits
worked_keys = refl

worked_filled : refusal_line (refusal.Sign (signing.Filled read.TooLarge)) ≡ codes "refused filled TooLarge\n"
worked_filled = refl

worked_covers : refusal_line (refusal.Sign (signing.CoversItself 2)) ≡ codes "refused CoversItself 2\n"
unfolding digits
worked_covers = refl

worked_fault : view_fault_line 2 2 ≡ codes "fault view 2 2\n"
unfolding digits
worked_fault = refl
