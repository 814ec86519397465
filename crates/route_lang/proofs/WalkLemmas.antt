-- A walk goes on behind a word that it takes.
use Rattle.std.proofs.Common.{◌≡◌, List, [], ◌∷◌, ℕ, Some, Ok, Err, refl}
use Rattle.route_lang.specs.declared.fault.Reason.{Reason}
use Rattle.route_lang.specs.declared.verb.Verb.{Verb}
use Rattle.route_lang.specs.declared.verb.Flag.{Flag}
use Rattle.route_lang.specs.declared.verb.Token.TheVariants.{Bare, Plain, Valued}
use Rattle.route_lang.specs.Reader.Verb.{token_of}
use Rattle.route_lang.specs.Reader.Walk.{Met, with_bare, with_flag, with_value, walk_from}

pub bare_goes : (verb : Verb) (met next : Met) (word : List ℕ) (words : List (List ℕ)) → token_of verb word ≡ Some Bare → with_bare verb met word ≡ Ok next → walk_from verb met (word ∷ words) ≡ walk_from verb next words
bare_goes verb met next word [] token taken = rw (token, taken) refl
bare_goes verb met next word (more ∷ words) token taken = rw (token, taken) refl

pub flag_goes : (verb : Verb) (met next : Met) (flag : Flag) (word : List ℕ) (words : List (List ℕ)) → token_of verb word ≡ Some (Plain flag) → with_flag met flag ≡ Ok next → walk_from verb met (word ∷ words) ≡ walk_from verb next words
flag_goes verb met next flag word [] token taken = rw (token, taken) refl
flag_goes verb met next flag word (more ∷ words) token taken = rw (token, taken) refl

pub flag_fails : (verb : Verb) (met : Met) (reason : Reason) (flag : Flag) (word : List ℕ) (words : List (List ℕ)) → token_of verb word ≡ Some (Plain flag) → with_flag met flag ≡ Err reason → walk_from verb met (word ∷ words) ≡ Err reason
flag_fails verb met reason flag word [] token refused = rw (token, refused) refl
flag_fails verb met reason flag word (more ∷ words) token refused = rw (token, refused) refl

pub value_goes : (verb : Verb) (met next : Met) (flag : Flag) (word value : List ℕ) (words : List (List ℕ)) → token_of verb word ≡ Some (Valued flag) → with_value met flag value ≡ Ok next → walk_from verb met (word ∷ value ∷ words) ≡ walk_from verb next words
value_goes verb met next flag word value words token taken = rw (token, taken) refl
