-- What the requests of a module resolve to, one after the other.
use mathlib.Core.Bool.{true≢false}
use Rattle.std.proofs.Common.{◌≡◌, ℕ, suc, ◌+◌, ◌<◌, ◌≤◌, if◌then◌else◌, List, [], ◌∷◌, ◌++◌, length, drop, get_or, Result, Ok, Err, refl, ap, sym, subst, ◌∙◌, arith, append-nil}
use Rattle.std.proofs.lemmas.List.{append_assoc, drop_more, drop_all, length-append}
use Rattle.std.specs.Prelude.{◌==◌}
use Rattle.std.specs.Cmp.Lexicographic.{pointwise}
use Rattle.std.specs.Bool.{Decides}
use Rattle.std.proofs.lemmas.Bool.Decides.{Decides-eqb, Decides-and}
use Rattle.std.proofs.lemmas.Slice.Eq.{bytes_eq-Decides, slice_eq-Decides}
use Rattle.std.proofs.lemmas.List.Elements.{All-nil, All-cons}
use Rattle.esm_base.specs.Urls.{Text, Url, IsUsable, same_url}
use Rattle.esm_import_map.specs.ImportMap.{Maps}
use Rattle.esm_specifier.specs.Laws.{RefusalsAreRequests, TargetsAreTested, TargetsAreUsable}
use Rattle.esm_specifier.specs.Resolution.{resolution_of_specifier}
use Rattle.esm_specifier.specs.Targets.{Refusal, later, targets_by, targets_of, targets_view, number_of, same_targets, AreUsable}
use Rattle.esm_specifier.specs.declared.fault.SpecFault.{SpecFault}
use Rattle.esm_specifier.specs.declared.fault.SpecFault.TheVariants.{S1, S2, S3, S4, S5}
use Rattle.esm_specifier.proofs.Usable.{resolves_to_usable}

-- the request at this place is refused
abbrev pub refused_at : ℕ → SpecFault → Result (List Url) Refusal
refused_at n fault = Err (record { place = n; fault = fault })

-- what the requests that are left resolve to gives what all of them resolve to
pub record LeadsOn (maps : Maps) (referrer : Url) (all rest : List Text) (urls : List Url) : Type 0 where
  pub resolved : (more : List Url) → targets_of maps referrer rest ≡ Ok more → targets_of maps referrer all ≡ Ok (urls ++ more)
  pub refused : (refusal : Refusal) → targets_of maps referrer rest ≡ Err refusal
      → targets_of maps referrer all ≡ refused_at (length urls + refusal.place) refusal.fault

at_place : (n m : ℕ) (fault : SpecFault) → n ≡ m → (all : Result (List Url) Refusal) → all ≡ refused_at n fault → all ≡ refused_at m fault
at_place n m fault e all is = is ∙ ap (λ p. refused_at p fault) e

pub leads_begin : (maps : Maps) (referrer : Url) (all : List Text) → LeadsOn maps referrer all all []
leads_begin maps referrer all = record {
  resolved = λ more e. e;
  refused = λ refusal e. at_place refusal.place (length {A = Url} [] + refusal.place) refusal.fault (omega arith) (targets_of maps referrer all) e;
}

module _ (maps : Maps) (referrer : Url) (all : List Text) (urls : List Url) (i : ℕ) (specifier : Text) (leads : LeadsOn maps referrer all (drop i all) urls) (within : i < length all) (is : specifier ≡ get_or all i specifier) where
  here : targets_of maps referrer (drop i all) ≡ targets_by (resolution_of_specifier maps referrer specifier) (targets_of maps referrer (drop (i + 1) all))
  here = ap (targets_of maps referrer) (drop_more all i specifier within ∙ ap (λ s. s ∷ drop (i + 1) all) (sym is))

  -- one request more is resolved
  pub leads_more : (target : Url) → resolution_of_specifier maps referrer specifier ≡ Ok target → LeadsOn maps referrer all (drop (i + 1) all) (urls ++ target ∷ [])
  leads_more target to = record {
    resolved = λ more e. leads.resolved (target ∷ more) (here ∙ ap (λ r. targets_by r (targets_of maps referrer (drop (i + 1) all))) to ∙ ap (targets_by (Ok target)) e) ∙ ap (λ us. Ok us) (sym (append_assoc urls (target ∷ []) more));
    refused = λ refusal e.
        at_place (length urls + suc refusal.place) (length (urls ++ target ∷ []) + refusal.place) refusal.fault (omega (arith, length-append urls (target ∷ []))) (targets_of maps referrer all)
        (leads.refused (later refusal) (here ∙ ap (λ r. targets_by r (targets_of maps referrer (drop (i + 1) all))) to ∙ ap (targets_by (Ok target)) e));
  }

  -- the next request is refused
  pub leads_refused : (fault : SpecFault) → resolution_of_specifier maps referrer specifier ≡ Err fault → refused_at (length urls) fault ≡ targets_of maps referrer all
  leads_refused fault to =
      sym (at_place (length urls + 0) (length urls) fault (omega arith) (targets_of maps referrer all)
      (leads.refused (record { place = 0; fault = fault }) (here ∙ ap (λ r. targets_by r (targets_of maps referrer (drop (i + 1) all))) to)))

-- all requests are resolved
pub leads_whole : (maps : Maps) (referrer : Url) (all : List Text) (urls : List Url) (i : ℕ) → LeadsOn maps referrer all (drop i all) urls → length all ≤ i → Ok urls ≡ targets_of maps referrer all
leads_whole maps referrer all urls i leads past =
    sym (leads.resolved [] (ap (targets_of maps referrer) (drop_all i all past)) ∙ ap (λ us. Ok us) (append-nil urls))

-- ---- the law

abbrev found_urls : List Url → Result (List Url) Refusal
found_urls urls = Ok urls

abbrev refused_by : Refusal → Result (List Url) Refusal
refused_by refusal = Err refusal

same_urls : (a b : List Url) → found_urls a ≡ found_urls b → a ≡ b
same_urls a b e = cc

other_end : (A : Type 0) (refusal : Refusal) (urls : List Url) → refused_by refusal ≡ found_urls urls → A
other_end A refusal urls e = absurd (cc)

usable_by : (maps : Maps) (referrer : Url) (specifier : Text) (specifiers : List Text) (urls : List Url) (r : Result Url SpecFault) (others : Result (List Url) Refusal) → resolution_of_specifier maps referrer specifier ≡ r
    → ((more : List Url) → others ≡ Ok more → AreUsable specifiers more) → targets_by r others ≡ Ok urls → AreUsable (specifier ∷ specifiers) urls
usable_by maps referrer specifier specifiers urls (Ok url) (Ok more) f rest e =
    let r = rest more refl in
    subst (AreUsable (specifier ∷ specifiers)) (same_urls (url ∷ more) urls e)
    (record { each = All-cons IsUsable url more (resolves_to_usable maps referrer specifier url f) r.each; as_many = ap suc r.as_many })
usable_by maps referrer specifier specifiers urls (Ok url) (Err refusal) f rest e = other_end _ (later refusal) urls e
usable_by maps referrer specifier specifiers urls (Err fault) others f rest e = other_end _ (record { place = 0; fault = fault }) urls e

pub targets_are_usable : TargetsAreUsable
targets_are_usable maps referrer [] urls e =
    subst (AreUsable []) (same_urls [] urls e) (record { each = All-nil IsUsable; as_many = refl })
targets_are_usable maps referrer (specifier ∷ specifiers) urls e =
    usable_by maps referrer specifier specifiers urls (resolution_of_specifier maps referrer specifier) (targets_of maps referrer specifiers) refl (targets_are_usable maps referrer specifiers) e

other_urls : (A : Type 0) (refusal : Refusal) (urls : List Url) → found_urls urls ≡ refused_by refusal → A
other_urls A refusal urls e = absurd (cc)

same_refusal : (a b : Refusal) → refused_by a ≡ refused_by b → a ≡ b
same_refusal a b e = cc

-- a refusal of the first requests
refused_by_one : (n : ℕ) (r : Result Url SpecFault) (others : Result (List Url) Refusal) (refusal : Refusal) → ((q : Refusal) → others ≡ Err q → q.place < n) → targets_by r others ≡ Err refusal → refusal.place < suc n
refused_by_one n (Ok url) (Ok more) refusal rest e = other_urls _ refusal (url ∷ more) e
refused_by_one n (Ok url) (Err q) refusal rest e =
    let same : suc q.place ≡ refusal.place = ap (λ (r : Refusal). r.place) (same_refusal (later q) refusal e) in
    let within = rest q refl in
    omega (arith, same, within)
refused_by_one n (Err fault) others refusal rest e =
    let same : 0 ≡ refusal.place = ap (λ (r : Refusal). r.place) (same_refusal (record { place = 0; fault = fault }) refusal e) in
    omega (arith, same)

pub refusals_are_requests : RefusalsAreRequests
refusals_are_requests maps referrer [] refusal e = other_urls _ refusal [] e
refusals_are_requests maps referrer (specifier ∷ specifiers) refusal e =
    refused_by_one (length specifiers) (resolution_of_specifier maps referrer specifier) (targets_of maps referrer specifiers) refusal (refusals_are_requests maps referrer specifiers) e

-- ---- the test

fault_of : ℕ → SpecFault
fault_of n = if n == 1 then S1 else if n == 2 then S2 else if n == 3 then S3 else if n == 4 then S4 else S5

numbered : (fault : SpecFault) → fault_of (number_of fault) ≡ fault
unfolding fault_of
numbered S1 = refl
numbered S2 = refl
numbered S3 = refl
numbered S4 = refl
numbered S5 = refl

same_fault : (a b : SpecFault) → Decides (number_of a == number_of b) (a ≡ b)
same_fault a b =
    let d = Decides-eqb (number_of a) (number_of b) in
    (λ e. sym (numbered a) ∙ ap fault_of (d.0 e) ∙ numbered b, λ e. d.1 (ap number_of e))

tested : (a b : Result (List Url) Refusal) → Decides (same_targets a b) (a ≡ b)
tested (Ok urls) (Ok others) =
    let d = slice_eq-Decides bytes_eq-Decides urls others (pointwise same_url urls others) refl in
    (λ e. ap (λ us. found_urls us) (d.0 e), λ e. d.1 (same_urls urls others e))
tested (Ok urls) (Err refusal) = (λ e. absurd (true≢false (sym e)), λ e. other_urls _ refusal urls e)
tested (Err refusal) (Ok urls) = (λ e. absurd (true≢false (sym e)), λ e. other_end _ refusal urls e)
tested (Err a) (Err b) =
    let d = Decides-and (a.place == b.place) (number_of a.fault == number_of b.fault) (Decides-eqb a.place b.place) (same_fault a.fault b.fault) in (
      λ e. let k = d.0 e in ap (λ n. refused_by (record { place = n; fault = a.fault })) k.0 ∙ ap (λ f. refused_by (record { place = b.place; fault = f })) k.1,
      λ e. let same = same_refusal a b e in d.1 (ap (λ (r : Refusal). r.place) same, ap (λ (r : Refusal). r.fault) same),
    )

pub targets_are_tested : TargetsAreTested
targets_are_tested maps referrer requests targets = tested (targets_view targets) (targets_of maps referrer requests)
