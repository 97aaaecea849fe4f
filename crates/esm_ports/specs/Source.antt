-- What a source is asked and what it answers.
use Rattle.std.specs.Prelude.{◌≡◌, ◌⊎◌, ℕ, List, [], ◌∷◌, ◌++◌, take, Vec, Option, None, Result, Ok, Err, IsSomeAnd, Some}
use Rattle.std.specs.declared.alloc.Global.{Global}
use Rattle.esm_base.specs.declared.limits.TheConstants.{MAX_BODY_BYTES}
use Rattle.esm_ports.specs.declared.asked.Asked.{Asked}
use Rattle.esm_ports.specs.declared.source.FetchEnd.{FetchEnd}
use Rattle.esm_ports.specs.declared.source.FetchEnd.TheVariants as end
use Rattle.esm_ports.specs.declared.asked.AskKind.{AskKind}
use Rattle.esm_ports.specs.declared.asked.AskKind.TheVariants.{Body, Absent, Failed}

-- how an answer is recorded, if it is
abbrev pub kind_of : {B : Type 0} → Result B FetchEnd → Option AskKind
kind_of (Ok body) = Some Body
kind_of (Err end.Absent) = Some Absent
kind_of (Err end.Failed) = Some Failed
kind_of (Err end.Memory) = None

-- what is recorded of an answer: nothing where memory ran out
abbrev pub asks_of : {B : Type 0} → List ℕ → Result B FetchEnd → List Asked
asks_of url (Ok body) = record { url = url; kind = Body } ∷ []
asks_of url (Err end.Absent) = record { url = url; kind = Absent } ∷ []
asks_of url (Err end.Failed) = record { url = url; kind = Failed } ∷ []
asks_of url (Err end.Memory) = []

abbrev pub asked_after : {B : Type 0} → List Asked → List ℕ → Result B FetchEnd → List Asked
asked_after asked url result = asked ++ asks_of url result

-- the answer is handed on, or memory ran out
abbrev pub HandsOn : {B : Type 0} → Result B FetchEnd → Result B FetchEnd → Type 0
HandsOn answer result = (result ≡ answer) ⊎ (result ≡ Err end.Memory)

-- the answer is that of a source with these contents: a body is the first bytes, or all, of what it
-- holds, and nothing is held where it says so
abbrev pub IsToldBy : (List ℕ → Option (List ℕ)) → List ℕ → Result (Vec ℕ Global) FetchEnd → Type 0
IsToldBy contents url (Ok body) = IsSomeAnd (contents url) (λ bytes. body.items ≡ take MAX_BODY_BYTES bytes)
IsToldBy contents url (Err end.Absent) = contents url ≡ None
IsToldBy contents url (Err end.Failed) = Unit {0}
IsToldBy contents url (Err end.Memory) = Unit {0}
