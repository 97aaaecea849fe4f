-- What leads to an ask ahead: a body that was posted before it, whose module requests the URL.
use Rattle.std.specs.Prelude.{ℕ, ◌==◌, ◌&&◌, Bool, true, false, cond, List, [], ◌∷◌, ◌++◌, Option, Some, None}
use Rattle.std.specs.Arc.{arc_value}
use Rattle.esm_base.specs.Urls.{Url}
use Rattle.esm_module_map.specs.declared.event.Why.{Why}
use Rattle.esm_module_map.specs.declared.event.Why.TheVariants.{Wanted, Ahead}
use Rattle.esm_module_map.specs.declared.event.MapEvent.{MapEvent}
use Rattle.esm_module_map.specs.declared.event.MapEvent.TheVariants.{Begin, Enrol, Ask, Take, Post, Shut}

module _ {P G : Type 0} where
  -- own: the guide with which the history begins
  abbrev pub guide_in : List (MapEvent P G) → Option G
  guide_in [] = None
  guide_in (Begin g ∷ es) = Some (arc_value g)
  guide_in (Enrol c ∷ es) = guide_in es
  guide_in (Ask c n u why ∷ es) = guide_in es
  guide_in (Take c n ∷ es) = guide_in es
  guide_in (Post c n p ∷ es) = guide_in es
  guide_in (Shut c ∷ es) = guide_in es

  -- own: the URL that was first asked for under this number
  abbrev pub url_in : ℕ → List (MapEvent P G) → Option Url
  url_in k [] = None
  url_in k (Begin g ∷ es) = url_in k es
  url_in k (Enrol c ∷ es) = url_in k es
  url_in k (Ask c n u why ∷ es) = cond (n == k) (Some u) (url_in k es)
  url_in k (Take c n ∷ es) = url_in k es
  url_in k (Post c n p ∷ es) = url_in k es
  url_in k (Shut c ∷ es) = url_in k es

  -- own: what was first posted under this number
  abbrev pub payload_in : ℕ → List (MapEvent P G) → Option P
  payload_in k [] = None
  payload_in k (Begin g ∷ es) = payload_in k es
  payload_in k (Enrol c ∷ es) = payload_in k es
  payload_in k (Ask c n u why ∷ es) = payload_in k es
  payload_in k (Take c n ∷ es) = payload_in k es
  payload_in k (Post c n p ∷ es) = cond (n == k) (Some (arc_value p)) (payload_in k es)
  payload_in k (Shut c ∷ es) = payload_in k es

  module _ (leads : G → P → Url → Url → Bool) where
    abbrev pub leads_by : Option G → Option P → Option Url → Url → Bool
    leads_by (Some guide) (Some payload) (Some from) to = leads guide payload from to
    leads_by (Some guide) (Some payload) None to = false
    leads_by (Some guide) None from to = false
    leads_by None payload from to = false

    -- own: an ask of this kind for the URL is wanted, or what was posted under its number leads to the URL
    abbrev pub leads_to : List (MapEvent P G) → Why → Url → Bool
    leads_to past Wanted to = true
    leads_to past (Ahead k) to = leads_by (guide_in past) (payload_in k past) (url_in k past) to

    -- own: where the event is an ask ahead, something leads to it
    abbrev pub may_lead : List (MapEvent P G) → MapEvent P G → Bool
    may_lead past (Begin g) = true
    may_lead past (Enrol c) = true
    may_lead past (Ask c n u why) = leads_to past why u
    may_lead past (Take c n) = true
    may_lead past (Post c n p) = true
    may_lead past (Shut c) = true

    abbrev pub is_led_from : List (MapEvent P G) → List (MapEvent P G) → Bool
    is_led_from past [] = true
    is_led_from past (e ∷ es) = may_lead past e && is_led_from (past ++ e ∷ []) es

    -- own: to each ask ahead of the history something leads that stands before it
    abbrev pub is_led : List (MapEvent P G) → Bool
    is_led es = is_led_from [] es
