use Rattle.std.proofs.Common.{◌∙◌, ap}
use Rattle.esm_ast.specs.Entries.{all_exports, locals_of, indirects_of}
use Rattle.esm_script.proofs.Gathered.{parts_are}
use Rattle.esm_script.proofs.entries.entries_of.Goals as goal

pub returns : goal.returns
returns c =
    let xs = c.args.tree.now.items in
    let keys = c.in_ok-requests.requests in
    let imports = c.in_ok-imports.imports.items in
    parts_are _ keys imports xs (record {
      requests_are = c.new.ensures.requests ∙ c.into_texts-requests.ensures;
      imports_are = c.new.ensures.imports;
      locals_are = c.new.ensures.locals ∙ c.in_ok-exports.ensures.locals ∙ ap (λ m. locals_of (all_exports keys m xs)) c.deref.ensures.value;
      indirects_are = c.new.ensures.indirects ∙ c.in_ok-exports.ensures.indirects ∙ ap (λ m. indirects_of (all_exports keys m xs)) c.deref.ensures.value;
      stars_are = c.new.ensures.stars ∙ c.in_ok-stars.ensures;
      awaits_is = c.new.ensures.awaits ∙ c.has_await.ensures;
    }) c.in_ok-requests.ensures c.in_ok-imports.ensures
