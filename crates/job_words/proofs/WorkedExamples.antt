-- Command lines, worked out.
use Rattle.std.proofs.Common.{◌≡◌, List, [], ◌∷◌, codes, chars, Some, None, Ok, refl, true, false}
use Rattle.url.specs.Parts.{Parts}
use Rattle.uri_refs.specs.Bases.{base_of}
use Rattle.job_words.specs.Given.{given_in}
use Rattle.job_words.specs.Job.{asked_in, canon_job, default_base, job_of, selftest_job, sign_job, validate_job}
use Rattle.job_words.specs.declared.job.Job.TheVariants as job

self_test : job_of (codes "selftest" ∷ codes "5" ∷ []) ≡ Some (job.SelfTest 5)
unfolding given_in selftest_job
self_test = refl

self_test_of_none : job_of (codes "selftest" ∷ codes "0" ∷ []) ≡ None
unfolding given_in selftest_job
self_test_of_none = refl

keys_twice : job_of (codes "validate" ∷ codes "d.xml" ∷ codes "--keys" ∷ codes "k.txt" ∷ codes "--keys" ∷ codes "k.txt" ∷ []) ≡ None
unfolding given_in validate_job
keys_twice = refl

prefixes_of_inclusive : job_of (codes "canon" ∷ codes "d.xml" ∷ codes "--method" ∷ codes "c14n10" ∷ codes "--prefixes" ∷ codes "a" ∷ []) ≡ None
unfolding given_in canon_job
prefixes_of_inclusive = refl

option_as_value : job_of (codes "sign" ∷ codes "d.xml" ∷ codes "--keys" ∷ codes "--key=k" ∷ []) ≡ None
unfolding given_in sign_job
option_as_value = refl

behind_equals : (base : Parts) → base_of default_base ≡ Ok base
    → job_of (codes "sign" ∷ codes "--keys=k=1" ∷ codes "d.xml" ∷ [])
    ≡ Some (job.Sign (record { doc = chars (codes "d.xml"); keys = chars (codes "k=1"); key = None; index = 1; base = base; catalog = None }))
unfolding given_in sign_job asked_in
behind_equals base e = rw e refl
