-- What a history has of a caller: the URLs that it asked for and took, what it posted, and its Shuts.
use Rattle.std.specs.Prelude.{◌≡◌, ℕ, ◌==◌, Bool, false, cond, List, [], ◌∷◌, ◌++◌, slice_get, slice_index_or, Some}
use Rattle.std.specs.Arc.{arc_value}
use Rattle.std.specs.declared.sync.Arc.{Arc}
use Rattle.std.specs.declared.alloc.Global.{Global}
use Rattle.esm_base.specs.Urls.{Url}
use Rattle.esm_module_map.specs.declared.event.MapEvent.{MapEvent}
use Rattle.esm_module_map.specs.declared.event.MapEvent.TheVariants.{Begin, Enrol, Ask, Take, Post, Shut}
use Rattle.esm_module_map.specs.Replay.{Replay, opening, step}

-- something posted: its number, that number's URL, and what was posted
pub record Answer (P : Type 0) : Type 0 where
  pub number : ℕ
  pub url : Url
  pub payload : P

-- the URL of a number
abbrev pub url_at : Replay → ℕ → Url
url_at s n = slice_index_or s.urls n []

module _ {P G : Type 0} where
  -- the event is a post of this under the number
  abbrev pub Posts : MapEvent P G → ℕ → P → Type 0
  Posts e n p = (c : ℕ) × (q : Arc P Global) × (e ≡ Post c n q) × (arc_value q ≡ p)

  -- the history has such an event
  abbrev pub IsPostIn : List (MapEvent P G) → ℕ → P → Type 0
  IsPostIn h n p = (k : ℕ) × (e : MapEvent P G) × (slice_get h k ≡ Some e) × Posts e n p

  -- the event is a post under the number
  abbrev pub is_post_of : ℕ → MapEvent P G → Bool
  is_post_of n (Begin g) = false
  is_post_of n (Enrol c) = false
  is_post_of n (Ask c m url why) = false
  is_post_of n (Take c m) = false
  is_post_of n (Post c m p) = m == n
  is_post_of n (Shut c) = false

  -- what one event of the caller c says, behind a history that comes to s
  abbrev pub asks_in : ℕ → Replay → MapEvent P G → List Url
  asks_in c s (Begin g) = []
  asks_in c s (Enrol d) = []
  asks_in c s (Ask d n url why) = cond (d == c) (url ∷ []) []
  asks_in c s (Take d n) = []
  asks_in c s (Post d n p) = []
  asks_in c s (Shut d) = []

  abbrev pub takes_in : ℕ → Replay → MapEvent P G → List Url
  takes_in c s (Begin g) = []
  takes_in c s (Enrol d) = []
  takes_in c s (Ask d n url why) = []
  takes_in c s (Take d n) = cond (d == c) (url_at s n ∷ []) []
  takes_in c s (Post d n p) = []
  takes_in c s (Shut d) = []

  abbrev pub answers_in : ℕ → Replay → MapEvent P G → List (Answer P)
  answers_in c s (Begin g) = []
  answers_in c s (Enrol d) = []
  answers_in c s (Ask d n url why) = []
  answers_in c s (Take d n) = []
  answers_in c s (Post d n p) = cond (d == c) (record { number = n; url = url_at s n; payload = arc_value p } ∷ []) []
  answers_in c s (Shut d) = []

  abbrev pub shuts_in : ℕ → Replay → MapEvent P G → List ℕ
  shuts_in c s (Begin g) = []
  shuts_in c s (Enrol d) = []
  shuts_in c s (Ask d n url why) = []
  shuts_in c s (Take d n) = []
  shuts_in c s (Post d n p) = []
  shuts_in c s (Shut d) = cond (d == c) (d ∷ []) []

  module _ (weight : P → ℕ) where
    -- what the events say, one after the other
    abbrev pub along : {A : Type 0} → (Replay → MapEvent P G → List A) → Replay → List (MapEvent P G) → List A
    along says s [] = []
    along says s (e ∷ es) = says s e ++ along says (step weight s e) es

    -- the URLs that the caller c asked for, and took, in order
    abbrev pub asks_by : ℕ → List (MapEvent P G) → List Url
    asks_by c h = along (asks_in c) opening h

    abbrev pub takes_by : ℕ → List (MapEvent P G) → List Url
    takes_by c h = along (takes_in c) opening h

    -- what the caller c posted, in order
    abbrev pub answers_by : ℕ → List (MapEvent P G) → List (Answer P)
    answers_by c h = along (answers_in c) opening h

    -- its Shuts, each by its number
    abbrev pub shuts_by : ℕ → List (MapEvent P G) → List ℕ
    shuts_by c h = along (shuts_in c) opening h
