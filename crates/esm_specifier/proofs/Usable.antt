-- What a resolver answers is usable.
use Rattle.std.proofs.Common.{◌≡◌, ℕ, List, length, take, drop, Option, None, Some, bytes_eq, Bool, true, false, Result, Ok, Err, IfOk, refl, sym, ap, subst, ◌∙◌, if◌then◌else◌}
use Rattle.std.proofs.Math.Seq.{take-length}
use Rattle.std.proofs.lemmas.Slice.Eq.{bytes_eq-Decides}
use Rattle.url.specs.Parts.{Parts, serialize}
use Rattle.esm_import_map.specs.ImportMap.{Maps, no_maps}
use Rattle.esm_specifier.specs.Laws.{ResolvesToUsable, ResolvesByItself, ResolvesAsTheStandard}
use Rattle.esm_base.specs.Ends.{Gives}
use Rattle.url.proofs.OnLiterals.{url_on_literals}
use Rattle.esm_base.specs.Urls.{Text, Url, url_of, is_usable, IsUsable}
use Rattle.esm_base.specs.declared.end.End.{End}
use Rattle.esm_import_map.specs.Specifier.{url_like}
use Rattle.esm_specifier.specs.Resolution.{usable, resolution_of_specifier, resolution_against, resolved, normal_text, by_address, under}
use Rattle.esm_specifier.specs.declared.fault.SpecFault.{SpecFault}
use Rattle.esm_specifier.specs.declared.fault.SpecFault.TheVariants.{S5}

abbrev Answer : Type 0
Answer = Result (List ℕ) SpecFault

abbrev good : List ℕ → Answer
good text = Ok text

abbrev bad : SpecFault → Answer
bad fault = Err fault

same_text : (a b : List ℕ) → good a ≡ good b → a ≡ b
same_text a b e = cc

other_end : (A : Type 0) (fault : SpecFault) (b : List ℕ) → bad fault ≡ good b → A
other_end A fault b e = absurd (cc)

usable_by : (text url : List ℕ) (b : Bool) → is_usable text ≡ b → (if b then Ok text else Err S5) ≡ Ok url → IsUsable url
usable_by text url true is e = subst IsUsable (same_text text url e) is
usable_by text url false is e = other_end _ S5 url e

usable_of : (said : Result (List ℕ) SpecFault) (url : List ℕ) → usable said ≡ Ok url → IsUsable url
usable_of (Ok text) url e = usable_by text url (is_usable text) refl e
usable_of (Err fault) url e = other_end _ fault url e

-- an answer that tells a usable one is usable
tells_usable : (result : Result (List ℕ) (End SpecFault)) (said : Result (List ℕ) SpecFault) → Gives result (usable said) → IfOk result IsUsable
tells_usable (Ok url) said t = usable_of said url t
tells_usable (Err end) said t = tt

resolves_usable : (result : Result (List ℕ) (End SpecFault)) (maps : Maps) (referrer specifier : List ℕ) (base : Option Parts) → Gives result (resolution_against maps referrer specifier base) → IfOk result IsUsable
resolves_usable (Ok url) maps referrer specifier None t = other_end _ S5 url t
resolves_usable (Err end) maps referrer specifier None t = tt
resolves_usable result maps referrer specifier (Some base) t =
    let url = url_like base specifier in tells_usable result (resolved maps referrer url (normal_text url specifier)) t

-- what a specifier resolves to is canonical and short
pub resolution_usable : (result : Result (List ℕ) (End SpecFault)) (maps : Maps) (referrer specifier : List ℕ) → Gives result (resolution_of_specifier maps referrer specifier) → IfOk result IsUsable
resolution_usable result maps referrer specifier t = resolves_usable result maps referrer specifier (url_of None referrer) t

-- a key as long as the text is the text
pub whole_key : (n : ℕ) (text : List ℕ) → n ≡ length text → bytes_eq (take n text) text ≡ true
whole_key n text e = (bytes_eq-Decides (take n text) text).1 (ap (λ m. take m text) e ∙ take-length text)

-- a key that is the text gives its address
pub follow_whole : (result : Result (List ℕ) (End SpecFault)) (normal key : List ℕ) (o : Option Parts) (address : Parts) → o ≡ Some address → bytes_eq key normal ≡ true → Gives result (usable (good (serialize address))) → Gives result (usable (by_address normal key o))
follow_whole result normal key o address is same t =
    let P : Option Parts → Type 0 = λ p. Gives result (usable (by_address normal key p)) in
    let Q : Bool → Type 0 = λ b. Gives result (usable (if b then Ok (serialize address) else under (serialize address) (url_of (Some address) (drop (length key) normal)))) in
    subst P (sym is) (subst Q (sym same) t)

-- ---- laws

given : (maps : Maps) (referrer : Url) (specifier : Text) (u : Url) → resolution_of_specifier maps referrer specifier ≡ Ok u → IsUsable u
given maps referrer specifier u e = resolution_usable (Ok u) maps referrer specifier e

pub resolves_to_usable : ResolvesToUsable
resolves_to_usable = given

pub resolves_by_itself : ResolvesByItself
resolves_by_itself = record {
  is = λ referrer base url specifier b l k. ap (resolution_against no_maps referrer specifier) b ∙ ap (λ o. usable (resolved no_maps referrer o (normal_text o specifier))) l ∙ ap (λ b. if b then Ok (serialize url) else Err S5) k;
  unusable = λ referrer base url specifier b l k. ap (resolution_against no_maps referrer specifier) b ∙ ap (λ o. usable (resolved no_maps referrer o (normal_text o specifier))) l ∙ ap (λ b. if b then Ok (serialize url) else Err S5) k;
  bare = λ referrer base specifier b l. ap (resolution_against no_maps referrer specifier) b ∙ ap (λ o. usable (resolved no_maps referrer o (normal_text o specifier))) l;
}

pub resolves_as_the_standard : ResolvesAsTheStandard
unfolding url_on_literals
resolves_as_the_standard = record { dot = refl; dots = refl; up = refl; rooted = refl; absolute = refl; bare = refl; no_slash = refl }
