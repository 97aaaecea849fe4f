-- The number that an ask is answered with has the URL.
use Rattle.std.proofs.Common.{◌≡◌, ℕ, Bool, true, false, bytes_eq, List, [], ◌∷◌, ◌++◌, length, sym, refl, ap, ◌∙◌, subst, arith, Some, slice_get, Ok}
use Rattle.std.proofs.lemmas.Slice.Eq.{bytes_eq-Decides}
use Rattle.esm_base.specs.Urls.{Url}
use Rattle.esm_module_map.specs.declared.event.Why.{Why}
use Rattle.esm_module_map.specs.declared.event.MapEvent.{MapEvent}
use Rattle.esm_module_map.specs.declared.event.MapEvent.TheVariants.{Ask}
use Rattle.esm_module_map.specs.declared.reply.Asked.{Asked}
use Rattle.esm_module_map.specs.Replay.{Replay, opening, replay, asked_by, is_numbered, is_posted, number_for}
use Rattle.esm_module_map.specs.Replies.{AskReply, answer_by, number_in}
use Rattle.esm_module_map.proofs.Replays.{lt_from, lt_false, replay_more}
use Rattle.esm_module_map.proofs.Asks.{at_first, or_len_most}

answered_number : (b h : Bool) (n : ℕ) → number_in (answer_by b h n) ≡ n
answered_number false h n = refl
answered_number true false n = refl
answered_number true true n = refl

get_last : {E : Type 0} (es : List E) (e : E) → slice_get (es ++ e ∷ []) (length es) ≡ Some e
get_last [] e = refl
get_last (x ∷ es) e = get_last es e

asked_url : (b : Bool) (s : Replay) (u : Url) (why : Why) → is_numbered s u ≡ b → slice_get (asked_by b s (number_for s u) u why).urls (number_for s u) ≡ Some u
asked_url true s u why e = let f = at_first (bytes_eq u) s.urls (lt_from (number_for s u) (length s.urls) e) in f.1 ∙ ap Some (sym ((bytes_eq-Decides u f.0).0 f.2))
asked_url false s u why e = let far = lt_false (number_for s u) (length s.urls) e in let most = or_len_most (bytes_eq u) s.urls in let same : length s.urls ≡ number_for s u = omega (arith, far, most) in
    subst (λ k. slice_get (s.urls ++ u ∷ []) k ≡ Some u) same (get_last s.urls u)

module _ {P G : Type 0} (weight : P → ℕ) where
  pub ask_numbers : (c : ℕ) (u : Url) (why : Why) (found now : List (MapEvent P G)) (asked : Asked) → AskReply weight found c u why (Ok asked) now → slice_get (replay weight now).urls (number_in asked) ≡ Some u
  ask_numbers c u why found now asked (is, answer) = let s = replay weight found in
      let number : number_in asked ≡ number_for s u = ap number_in answer ∙ answered_number (is_numbered s u) (is_posted s (number_for s u)) (number_for s u) in
      let urls : (replay weight now).urls ≡ (asked_by (is_numbered s u) s (number_for s u) u why).urls = ap (λ h. (replay weight h).urls) is ∙ ap (λ (r : Replay). r.urls) (replay_more weight opening found (Ask c (number_for s u) u why)) in
      ap (slice_get (replay weight now).urls) number ∙ ap (λ l. slice_get l (number_for s u)) urls ∙ asked_url (is_numbered s u) s u why refl
