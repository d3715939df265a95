-- The key that a validation uses: XML Signature 1.1, section 4.5, where KeyName is a hint to a shared key.
use Rattle.std.specs.Prelude.{◌≡◌, ℕ, Bool, List, Option, Some, None, Result, Ok, Err, encode_utf8_all, option_map}
use Rattle.std.specs.Borrow.{Bor}
use Rattle.digests_hmac.specs.KeyEntries.{KeyEntry}
use Rattle.digests_hmac.specs.Keys.{named, only_of}
use Rattle.uri_refs.specs.declared.target.Place.{Place}
use Rattle.dsig_fields.specs.declared.key.KeyChoice.{KeyChoice}
use Rattle.dsig_fields.specs.declared.key.KeyChoice.TheVariants.{NoKey, UnknownKey}
use Rattle.dsig_fields.specs.declared.key.Question.{Question}

-- what is asked of a validation: names as octets, the table as its keys
pub record QuestionOf : Type 0 where
  pub index : ℕ
  pub key_name : Option (List ℕ)
  pub keys : List KeyEntry
  pub place : Place
  pub keep_views : Bool

abbrev pub question_of : Question → QuestionOf
question_of q = record {
  index = q.index;
  key_name = option_map (λ (name : Bor (List ℕ)). name.now) q.key_name;
  keys = q.keys.now;
  place = q.place.now;
  keep_views = q.keep_views;
}

-- the question's name, else that of the signature
abbrev pub asked_name : Option (List ℕ) → Option (List ℕ) → Option (List ℕ)
asked_name (Some name) other = Some name
asked_name None other = option_map encode_utf8_all other

abbrev pub or_choice : KeyChoice → Option KeyEntry → Result KeyEntry KeyChoice
or_choice choice (Some key) = Ok key
or_choice choice None = Err choice

-- the key of that name; without a name the only key of the table
abbrev pub key_by : Option (List ℕ) → List KeyEntry → Result KeyEntry KeyChoice
key_by (Some name) keys = or_choice UnknownKey (named name keys)
key_by None keys = or_choice NoKey (only_of keys)

-- the key for a signature whose first KeyName, if it has one, is given as characters
abbrev pub key_of : Option (List ℕ) → QuestionOf → Result KeyEntry KeyChoice
key_of key_name question = key_by (asked_name question.key_name key_name) question.keys

abbrev pub Chooses : Result (Bor KeyEntry) KeyChoice → Result KeyEntry KeyChoice → Type 0
Chooses (Ok key) outcome = outcome ≡ Ok key.now
Chooses (Err choice) outcome = outcome ≡ Err choice
