-- Statements of `laws`.
use Rattle.std.specs.Prelude.{◌≡◌, ℕ, ◌≤◌, ◌==◌, Bool, true, false, List, Some, slice_get, Contains}
use Rattle.std.specs.List.{count_by}
use Rattle.esm_base.specs.Urls.{Url, is_usable}
use Rattle.esm_module_map.specs.declared.event.MapEvent.{MapEvent}
use Rattle.esm_module_map.specs.declared.event.MapEvent.TheVariants.{Begin, Enrol, Ask, Take, Post, Shut}
use Rattle.esm_hlock.specs.Makers.{times, names}
use Rattle.esm_module_map.specs.Replay.{replay, is_legal, maker_of}
use Rattle.esm_module_map.specs.Histories.{is_post_of, IsPostIn, asks_by, takes_by, answers_by}
use Rattle.esm_module_map.specs.Counts.{count, AreTakenOnce}
use Rattle.esm_module_map.specs.Saying.{Begins}
use Rattle.esm_module_map.specs.Leading.{guide_in}
use Rattle.esm_module_map.specs.Fitting.{FitsIn, are_fit}
use Rattle.esm_module_map.specs.Replies.{Found, IsOrderOf}

-- the event takes the number
abbrev pub is_take_of : {P G : Type 0} → ℕ → MapEvent P G → Bool
is_take_of n (Begin g) = false
is_take_of n (Enrol c) = false
is_take_of n (Ask c m url why) = false
is_take_of n (Take c m) = m == n
is_take_of n (Post c m p) = false
is_take_of n (Shut c) = false

-- what is posted stays so as the history grows
abbrev pub PostsStay : (P G : Type 0) → Type 0
PostsStay P G = (n : ℕ) (p : P) (old new : List (MapEvent P G)) → Begins old new → IsPostIn old n p → IsPostIn new n p

-- the guide stays as the history grows
abbrev pub GuideStays : (P G : Type 0) → Type 0
GuideStays P G = (guide : G) (old new : List (MapEvent P G)) → Begins old new → guide_in old ≡ Some guide → guide_in new ≡ Some guide

-- what is posted fits the URL of its number
abbrev pub PostsFit : (P G : Type 0) → (P → ℕ) → (G → P → Url → Bool) → Type 0
PostsFit P G weight fits = (n : ℕ) (u : Url) (p : P) (h : List (MapEvent P G)) → are_fit weight fits h ≡ true
    → slice_get (replay weight h).urls n ≡ Some u → IsPostIn h n p → FitsIn fits h p u

module _ (P G : Type 0) (weight : P → ℕ) where
  -- in a legal history each number is taken at most once
  abbrev pub TakenOnce : Type 0
  TakenOnce = (n : ℕ) (h : List (MapEvent P G)) → is_legal weight h ≡ true → count_by (is_take_of n) h ≤ 1

  -- in a legal history each number is posted at most once
  abbrev pub PostedOnce : Type 0
  PostedOnce = (n : ℕ) (h : List (MapEvent P G)) → is_legal weight h ≡ true → count_by (is_post_of n) h ≤ 1

  -- numbers have different URLs
  abbrev pub UrlsDiffer : Type 0
  UrlsDiffer = (u : Url) (h : List (MapEvent P G)) → count u (replay weight h).urls ≤ 1

  -- a number keeps its URL as the history grows
  abbrev pub UrlsStay : Type 0
  UrlsStay = (n : ℕ) (u : Url) (old new : List (MapEvent P G)) → Begins old new → slice_get (replay weight old).urls n ≡ Some u
      → slice_get (replay weight new).urls n ≡ Some u

  -- in a legal history the URLs of numbers may name modules
  abbrev pub UrlsAreUsable : Type 0
  UrlsAreUsable = (n : ℕ) (u : Url) (h : List (MapEvent P G)) → is_legal weight h ≡ true → slice_get (replay weight h).urls n ≡ Some u
      → is_usable u ≡ true

  -- an order of a caller stays so in what a call of it finds
  abbrev pub OrdersStay : Type 0
  OrdersStay = (c n : ℕ) (seen found : List (MapEvent P G)) → Found weight seen (Some c) found → IsOrderOf weight seen c n
      → IsOrderOf weight found c n

  -- what is posted was answered by a caller, under the URL of its number
  abbrev pub PostsAreAnswers : Type 0
  PostsAreAnswers = (n : ℕ) (u : Url) (p : P) (h : List (MapEvent P G)) → is_legal weight h ≡ true
      → slice_get (replay weight h).urls n ≡ Some u → IsPostIn h n p
      → (c : ℕ) × (names maker_of c h ≡ 1) × Contains (answers_by weight c h) (record { number = n; url = u; payload = p })

  -- a URL that a caller took was asked for by a caller
  abbrev pub TakesWereAsked : Type 0
  TakesWereAsked = (c : ℕ) (u : Url) (h : List (MapEvent P G)) → is_legal weight h ≡ true → Contains (takes_by weight c h) u
      → (d : ℕ) × (names maker_of d h ≡ 1) × Contains (asks_by weight d h) u

  -- callers among whom each maker of an event is listed once have taken no URL twice, all together
  abbrev pub TakenOnceByMakers : Type 0
  TakenOnceByMakers = (cs : List ℕ) (h : List (MapEvent P G)) → is_legal weight h ≡ true
      → ((k : ℕ) → names maker_of k h ≡ 1 → times k cs ≡ 1) → AreTakenOnce weight h cs
