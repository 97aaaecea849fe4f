-- The import map of a command is one.
use Rattle.std.proofs.Common.{◌≡◌, ◌<◌, ◌≤◌, ◌∙◌, ap, sym, subst, refl, ℕ, List, [], ◌∷◌, ◌++◌, length, take, arith, Bool, true, false, inr}
use Rattle.std.specs.Prelude.{Option, Some, None, Result, Ok, Err, IsSomeAnd, nat_le}
use Rattle.std.proofs.lemmas.Bool.Decides.{nat_tests}
use Rattle.std.proofs.lemmas.List.{take_all, length-take-le}
use Rattle.url.specs.Parts.{Parts}
use Rattle.esm_base.specs.Urls.{Url}
use Rattle.esm_base.specs.declared.limits.TheConstants.{MAX_BODY_BYTES, MAX_FILE_BYTES}
use Rattle.esm_base.specs.declared.end.End.{End}
use Rattle.esm_base.specs.declared.end.End.TheVariants as ends
use Rattle.esm_ports.specs.declared.asked.Asked.{Asked}
use Rattle.esm_ports.specs.declared.asked.AskKind.{AskKind}
use Rattle.esm_ports.specs.declared.asked.AskKind.TheVariants.{Body, Absent, Failed}
use Rattle.esm_import_map.specs.ImportMap.{Maps, no_maps}
use Rattle.esm_import_map.specs.Reading.{import_map_of, json_of, of_json}
use Rattle.esm_run.specs.Inner.MapReading.{FetchesMap, GivesFrom, GivesMapOf, MayHaveAsked, bytes_of}
use Rattle.esm_arguments.specs.declared.command.Command.{Command}
use Rattle.esm_run.specs.declared.command_map.GivenMap.{GivenMap}
use Rattle.esm_run.specs.declared.command_map.MapRefusal.{MapRefusal}
use Rattle.esm_run.specs.CommandMap.{DeskChange, WasAsked, AreHeld, map_said, said_by, ReadsMap, NoFile, NoAnswer, Read, MapBy, HoldsMap, KnownBy, AreGiven}

nat_le-true : (a b : ℕ) → nat_le a b ≡ true → a ≤ b
nat_le-true a b h = grind (arith, nat_tests)

nat_le-false : (a b : ℕ) → nat_le a b ≡ false → b < a
nat_le-false a b h = grind (arith, nat_tests)

-- ---- one answer

last_ask : (asks : List Asked) (a b : Asked) → asks ++ a ∷ [] ≡ asks ++ b ∷ [] → a ≡ b
last_ask [] a b same = cc same
last_ask (ask ∷ asks) a b same = last_ask asks a b (cc same)

one_kind : (desk : DeskChange) (url : Url) (one other : AskKind) → WasAsked desk url one → WasAsked desk url other → one ≡ other
one_kind desk url one other p q =
    let same : record { url = url; kind = one } ≡ record { url = url; kind = other } = last_ask desk.asked_before _ _ (sym p ∙ q) in ap (λ (a : Asked). a.kind) same

-- ---- the first bytes of a text say what it says

-- a text that is too long says the same whatever it is: it is no JSON text
too_long : (bytes : List ℕ) → MAX_FILE_BYTES < length bytes → json_of bytes ≡ None
too_long bytes long = by (nat_le (length bytes) MAX_FILE_BYTES) refl
  where
    by : (b : Bool) → nat_le (length bytes) MAX_FILE_BYTES ≡ b → json_of bytes ≡ None
    by true short = absurd (omega (arith, nat_le-true (length bytes) MAX_FILE_BYTES short, long))
    by false other = rw other refl

first_bytes : (held : List ℕ) (base : Parts) → import_map_of (take MAX_BODY_BYTES held) base ≡ import_map_of held base
first_bytes held base = by (nat_le (length held) MAX_BODY_BYTES) refl
  where
    by : (b : Bool) → nat_le (length held) MAX_BODY_BYTES ≡ b → import_map_of (take MAX_BODY_BYTES held) base ≡ import_map_of held base
    by true short = ap (λ bytes. import_map_of bytes base) (take_all MAX_BODY_BYTES held (nat_le-true (length held) MAX_BODY_BYTES short))
    by false long =
        let more : MAX_BODY_BYTES < length held = nat_le-false (length held) MAX_BODY_BYTES long in
        let cut : length (take MAX_BODY_BYTES held) ≡ MAX_BODY_BYTES = length-take-le MAX_BODY_BYTES held (omega arith) in
        ap (of_json base) (too_long (take MAX_BODY_BYTES held) (omega arith) ∙ sym (too_long held (omega arith)))

held_bytes : (desk : DeskChange) (base : Parts) (url : Url) (maps : Maps) (bytes : List ℕ) → AreHeld desk.holds url bytes → HoldsMap desk base url maps → map_said bytes base ≡ Ok maps
held_bytes desk base url maps bytes are known =
    let there : IsSomeAnd (known.contents url) (λ held. bytes ≡ take MAX_BODY_BYTES held) = subst (λ holds. AreHeld holds url bytes) known.tells are in
    let is : bytes ≡ take MAX_BODY_BYTES known.held = subst (λ found. IsSomeAnd found (λ held. bytes ≡ take MAX_BODY_BYTES held)) known.here there in
    ap (λ b. map_said b base) is ∙ ap said_by (first_bytes known.held base ∙ known.said)

said_of : (desk : DeskChange) (base : Parts) (url : Url) (maps : Maps) (said : Result Maps MapRefusal) → HoldsMap desk base url maps → ReadsMap desk base url said → said ≡ Ok maps
said_of desk base url maps said known (NoFile asked missing is) = absurd (cc (one_kind desk url Absent Body asked known.answered))
said_of desk base url maps said known (NoAnswer asked is) = absurd (cc (one_kind desk url Failed Body asked known.answered))
said_of desk base url maps said known (Read bytes asked held is) = is ∙ held_bytes desk base url maps bytes held known

ok_of : (r : Result Maps MapRefusal) (one other : Maps) → r ≡ Ok one → r ≡ Ok other → one ≡ other
ok_of r one other p q = cc (p, q)

not_both : (r : Result Maps MapRefusal) (refusal : MapRefusal) (maps : Maps) → r ≡ Err refusal → r ≡ Ok maps → ⊥
not_both r refusal maps p q = cc (p, q)

pub one_map : (map : Option Url) (desk : DeskChange) (base : Parts) (one maps : Maps) → MapBy map base desk (Ok one) → KnownBy map base desk maps → one ≡ maps
one_map None desk base one maps came known = ok_of (Ok one) one no_maps refl came.1 ∙ sym known
one_map (Some url) desk base one maps came known = ok_of (Ok one) one maps refl (said_of desk base url maps (Ok one) known came)

pub no_refusal : (map : Option Url) (url : Url) (desk : DeskChange) (base : Parts) (maps : Maps) (refusal : MapRefusal) → map ≡ Some url → KnownBy map base desk maps
    → ReadsMap desk base url (Err refusal) → ⊥
no_refusal map url desk base maps refusal there known reads =
    not_both (Err refusal) refusal maps refl (said_of desk base url maps (Err refusal) (subst (λ m. KnownBy m base desk maps) there known) reads)

-- a refused map was named
pub refused_map : (map : Option Url) (url : Url) (desk : DeskChange) (base : Parts) (refusal : MapRefusal) → map ≡ Some url → MapBy map base desk (Err refusal)
    → ReadsMap desk base url (Err refusal)
refused_map map url desk base refusal there came = subst (λ m. MapBy m base desk (Err refusal)) there came

-- what was read of the body that the desk answered
pub comes_read : (r : Result GivenMap (End MapRefusal)) (desk : DeskChange) (base : Parts) (url : Url) (bytes : List ℕ) → WasAsked desk url Body → AreHeld desk.holds url bytes
    → GivesFrom r bytes base → FetchesMap r base url desk
comes_read (Ok given) desk base url bytes asked held gives = (Read bytes asked held (sym gives.0), (bytes, gives.1, held, gives.0))
comes_read (Err (ends.Fault refusal)) desk base url bytes asked held gives = Read bytes asked held (sym gives)
comes_read (Err ends.Memory) desk base url bytes asked held gives = inr asked

pub comes_at : (r : Result GivenMap (End MapRefusal)) (desk : DeskChange) (base : Parts) (asked_url url : Url) (bytes : List ℕ) → asked_url ≡ url → WasAsked desk asked_url Body
    → AreHeld desk.holds asked_url bytes → GivesFrom r bytes base → FetchesMap r base url desk
comes_at r desk base asked_url url bytes same asked held gives = subst (λ u. FetchesMap r base u desk) same (comes_read r desk base asked_url bytes asked held gives)

-- of a known map there are bytes that the desk answered
pub given_known : (map : Option Url) (desk : DeskChange) (base : Parts) (maps : Maps) → KnownBy map base desk maps → (bytes : Option (List ℕ)) × AreGiven map base desk maps bytes
given_known None desk base maps known = (None, refl)
given_known (Some url) desk base maps known =
    let answer = take MAX_BODY_BYTES known.held in
    let are : AreHeld desk.holds url answer = subst (λ holds. AreHeld holds url answer) (sym known.tells)
    (subst (λ found. IsSomeAnd found (λ held. answer ≡ take MAX_BODY_BYTES held)) (sym known.here) refl) in
    (Some answer, (answer, refl, are, held_bytes desk base url maps answer are known))

-- the fetch of a map that was named gives the map of the command
pub gives_map : (r : Result GivenMap (End MapRefusal)) (c : Command) (url : Url) (desk : DeskChange) → c.map ≡ Some url → FetchesMap r c.base url desk → GivesMapOf r c desk
gives_map (Ok given) c url desk there f = (
  subst (λ m. MapBy m c.base desk (Ok given.map)) (sym there) f.0,
  subst (λ m. AreGiven m c.base desk given.map (bytes_of given)) (sym there) f.1,
)
gives_map (Err (ends.Fault refusal)) c url desk there f = subst (λ m. MapBy m c.base desk (Err refusal)) (sym there) f
gives_map (Err ends.Memory) c url desk there f = subst (λ m. MayHaveAsked m desk) (sym there) f
