-- What a mount refuses of an image: the first kind that applies, and its place.
use Rattle.std.specs.Prelude.{◌≡◌, ◌⊎◌, ◌<◌, ◌*◌, ◌==◌, ℕ, Bool, true, false, not, ◌&&◌, ◌||◌, nat_lt, List, [], ◌∷◌, length, Option, Some, None, if◌then◌else◌}
use Rattle.std.specs.List.{All, list_all, list_any}
use Rattle.kv_base.specs.declared.damage.Damage.{Damage}
use Rattle.kv_base.specs.declared.damage.Damage.TheVariants.{NoAnchor, Anchor, Run, Log, Value, Space}
use Rattle.kv_nand.specs.Flash.{Image}
use Rattle.kssd_layout.specs.Numbers.{max_keys_in, max_pages_in}
use Rattle.kssd_entry.specs.declared.entry.Entry.{Entry}
use Rattle.kssd_model.specs.declared.runs.RunInfo.{RunInfo}
use Rattle.kssd_model.specs.declared.anchor.Anchor as model
use Rattle.kssd_model.specs.declared.anchor.Found.{Found}
use Rattle.kssd_model.specs.Anchors.{newest_in}
use Rattle.kssd_model.specs.RunPages.{IsGoodRun, IsBadRunAt}
use Rattle.kssd_model.specs.Groups.{IsDamaged}
use Rattle.kssd_image.specs.Stages.{shown_by}
use Rattle.kssd_image.specs.AnchorForm.{IsAnchorForm, HasLowNumbers}
use Rattle.kssd_image.specs.Whole.{log_of, IsLogWhole, keys_from_level, pages_named, page_named, has_its_value, leaves_a_block}

-- the least number that passes a test
pub record IsFirst (test : ℕ → Bool) (n : ℕ) : Type 0 where
  pub here : test n ≡ true
  pub earlier : (k : ℕ) → k < n → test k ≡ false

-- damage of one kind, at a place
pub record IsAt (kind : ℕ → Damage) (Place : ℕ → Type 0) (damage : Damage) : Type 0 where
  pub place : ℕ
  pub is : damage ≡ kind place
  pub why : Place place

-- damage of a kind, or, where an image is clear of that, of those after it
abbrev pub Else : (Damage → Type 0) → Type 0 → (Damage → Type 0) → Damage → Type 0
Else Here Clear Later damage = Here damage ⊎ (Clear × Later damage)

-- an anchor's form and numbers are those that a mount takes
pub record IsAnchorFit (blocks : ℕ) (anchor : model.Anchor) : Type 0 where
  pub form : IsAnchorForm blocks anchor
  pub numbers : HasLowNumbers anchor

-- the anchor in this page is not fit
pub record IsUnfitAt (blocks : ℕ) (found : Found) (page : ℕ) : Type 0 where
  pub place : page ≡ found.page
  pub unfit : IsAnchorFit blocks found.anchor → ⊥

-- the first damaged page of the first damaged run
abbrev pub IsBadRunOf : Image → List RunInfo → ℕ → Type 0
IsBadRunOf image [] page = ⊥
IsBadRunOf image (run ∷ runs) page = IsBadRunAt image run page ⊎ (IsGoodRun image run × IsBadRunOf image runs page)

-- whether one of the entries names this page for its value, and the page isn't that
abbrev pub lacks_value : ℕ → Image → List Entry → ℕ → Bool
lacks_value blocks image entries page = list_any (λ entry. list_any (λ named. named == page) (page_named entry) && not (has_its_value blocks image entry)) entries

-- whether this limit is passed. 0: the keys; 1: those of level 1 and base, or of all levels without the log; 2: those of the base; 3: the values in pages; 4: each block of values has one
unfoldable pub is_passed : ℕ → Image → model.Anchor → ℕ → Bool
is_passed blocks image anchor limit =
    if limit == 0 then nat_lt (max_keys_in blocks) (length (shown_by image anchor))
    else (if limit == 1 then nat_lt (max_keys_in blocks) (keys_from_level image anchor 1) || nat_lt (max_keys_in blocks) (keys_from_level image anchor 0)
    else (if limit == 2 then nat_lt (max_keys_in blocks) (keys_from_level image anchor 2)
    else (if limit == 3 then nat_lt (max_pages_in blocks) (length (pages_named (shown_by image anchor)))
    else (limit == 4) && not (leaves_a_block blocks (shown_by image anchor)))))

-- the damage of what the newest anchor names: of the anchor, else of its runs, else of its log, else of its values, else of their number
abbrev pub IsDamageOf : ℕ → Image → Found → Damage → Type 0
IsDamageOf blocks image found =
    Else (IsAt Anchor (IsUnfitAt blocks found)) (IsAnchorFit blocks found.anchor)
    (Else (IsAt Run (IsBadRunOf image found.anchor.runs)) (All (IsGoodRun image) found.anchor.runs)
    (Else (IsAt Log (IsDamaged image (32 * found.anchor.log_block) found.anchor.log_seq)) (IsLogWhole image (log_of image found.anchor))
    (Else (IsAt Value (IsFirst (lacks_value blocks image (shown_by image found.anchor)))) (list_all (has_its_value blocks image) (shown_by image found.anchor) ≡ true)
    (IsAt Space (IsFirst (is_passed blocks image found.anchor))))))

-- the damage of an image by its newest anchor, if any
abbrev pub IsDamageBy : ℕ → Image → Option Found → Damage → Type 0
IsDamageBy blocks image None damage = damage ≡ NoAnchor
IsDamageBy blocks image (Some found) damage = IsDamageOf blocks image found damage

-- the first damage that applies to an image
abbrev pub IsDamage : ℕ → Image → Damage → Type 0
IsDamage blocks image damage = IsDamageBy blocks image (newest_in image) damage
