use Rattle.std.proofs.Common.{◌≡◌, ℕ, List, ◌∷◌, Bool, Ok, string_bytes, is_some, length, arith, refl, ap, sym, ◌∙◌}
use Rattle.std.specs.Option.{option_or}
use Rattle.std.specs.Vec.Iter.{into_iter_items, into_iter_len}
use Rattle.esm_base.specs.TextMap.{at}
use Rattle.esm_ports.specs.Files.{File, FilesByUrl, contents_of, held_at}
use Rattle.esm_ports.proofs.FileLemmas.{first_len, one_more, nothing_left}
use Rattle.esm_ports.proofs.held_files.by_url.Goals as goal

pub loop-file-init : goal.loop-file-init
loop-file-init c = (
  first_len c.args.files c.into_iter-file-iterator.result c.into_iter-file-iterator.ensures.into_iter_gives.1 c.into_iter-file-iterator.ensures.into_iter_gives.0,
  λ url. ap (λ (held : FilesByUrl). option_or (held_at held url) (contents_of (into_iter_items c.into_iter-file-iterator.result) url)) c.empty-held.ensures
      ∙ ap (λ (files : List File). contents_of files url) c.into_iter-file-iterator.ensures.into_iter_gives.0,
)

pub loop-file-preserved : goal.loop-file-preserved
loop-file-preserved c =
    let steps = c.in-Some.ensures.steps in
    let n : into_iter_len c.loop-file.file-iterator ≡ length (into_iter_items c.loop-file.file-iterator) = c.loop-file.invariant.0 in (
      omega (arith, ap length steps.0),
      λ url.
          let held = c.loop-file.held in
          let key = string_bytes c.in_ok-key.key in
          let rest = into_iter_items c.next.new.self in
          let fresh : Bool = c.in_ok-insert_new.field-0 in
          one_more url key c.in-Some.file.1 rest held c.insert_new.new.self fresh (is_some (at key held)) refl
          c.in_ok-insert_new.ensures.inserted (λ e. c.insert_new.ensures.known (c.in_ok-insert_new.was ∙ ap Ok e))
          ∙ (ap (λ (k : List ℕ). option_or (held_at held url) (contents_of ((k, c.in-Some.file.1) ∷ rest) url)) c.in_ok-key.ensures
          ∙ (ap (λ (files : List File). option_or (held_at held url) (contents_of files url)) (sym steps.0)
          ∙ c.loop-file.invariant.1 url)),
    )

pub returns : goal.returns
returns c url = nothing_left url c.loop-file.held (into_iter_items c.loop-file.file-iterator) (sym c.loop-file.invariant.0 ∙ c.in-None.ensures.steps.0) ∙ c.loop-file.invariant.1 url
