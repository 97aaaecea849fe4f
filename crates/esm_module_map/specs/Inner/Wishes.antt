-- URLs that are to be asked for, with copies of them.
use Rattle.std.specs.Prelude.{◌≡◌}
use Rattle.esm_base.specs.Urls.{Url, IsUsable}
use Rattle.esm_module_map.specs.declared.state.Wish.{Wish}

abbrev pub wished : Wish → Url
wished wish = wish.url

-- it may name a module, and the copy is the same
abbrev pub IsWish : Wish → Type 0
IsWish wish = (wish.key ≡ wish.url) × IsUsable wish.url
