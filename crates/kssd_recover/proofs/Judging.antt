-- A mount that stops tells the first damage of the image.
use Rattle.std.proofs.Common.{◌≡◌, ℕ, ◌<◌, ◌^◌, Option, false, Some, None, refl, sym, subst, arith, inl, inr}
use Rattle.std.specs.List.{All}
use Rattle.kv_base.specs.declared.damage.Damage.{Damage}
use Rattle.kv_base.specs.declared.damage.Damage.TheVariants as damages
use Rattle.kv_nand.specs.declared.fault.FlashFault.{FlashFault}
use Rattle.kv_nand.specs.declared.fault.FlashFault.TheVariants as flash
use Rattle.kv_nand.specs.declared.fault.MountFault.{MountFault}
use Rattle.kv_nand.specs.declared.fault.MountFault.TheVariants as mount
use Rattle.kv_nand.specs.Faults.{mount_fault}
use Rattle.kv_nand.specs.Flash.{Flash, Image}
use Rattle.kssd_model.specs.declared.anchor.Anchor.{Anchor}
use Rattle.kssd_model.specs.declared.anchor.Found.{Found}
use Rattle.kssd_model.specs.Anchors.{newest_in}
use Rattle.kssd_model.specs.OnlyReading.{OnlyReads, StopsReading}
use Rattle.kssd_model.specs.RunPages.{IsGoodRun}
use Rattle.kssd_model.proofs.ReadingOn.{reads_then_reads, reads_then_stops, reads_image, reads_blocks}
use Rattle.kssd_image.specs.AnchorForm.{HasLowNumbers}
use Rattle.kssd_image.specs.Stages.{shown_by}
use Rattle.kssd_image.specs.Whole.{Sound}
use Rattle.kssd_image.specs.Damages.{IsFirst, IsAnchorFit, lacks_value, is_passed, IsDamageBy, IsDamage}
use Rattle.kssd_image.proofs.OneDamage.{clear_from_sound, sound_from_clear}
use Rattle.kssd_recover.specs.Faults.{FailsBy}
use Rattle.kssd_recover.specs.Log.{IsLogDamage}
use Rattle.kssd_recover.specs.declared.index.Index.{Index}
use Rattle.kssd_recover.specs.declared.walking.Visible.{Visible}
use Rattle.kssd_recover.specs.declared.limits.Counts.{Counts}
use Rattle.kssd_recover.specs.Walk.{IsLeastOf}
use Rattle.kssd_recover.specs.Limits.{AreVisible, AreCounts}
use Rattle.kssd_recover.specs.Parts.{LacksAnchor, IsRunDamage, IsIndexRead}

-- ---- one step after another

pub fails_as : (P Q : Damage → Type 0) (old new : Flash) (fault : MountFault) → ((d : Damage) → P d → Q d) → FailsBy P old fault new → FailsBy Q old fault new
fails_as P Q old new (mount.Damaged d) f h = (f d h.0, h.1)
fails_as P Q old new mount.Off f h = h
fails_as P Q old new mount.Failed f h = h
fails_as P Q old new mount.Memory f h = h

pub reads_then_fails : (P : Damage → Type 0) (a b c : Flash) (fault : MountFault) → OnlyReads a b → FailsBy P b fault c → FailsBy P a fault c
reads_then_fails P a b c (mount.Damaged d) ab h = (h.0, reads_then_reads a b c ab h.1)
reads_then_fails P a b c mount.Off ab h = reads_then_stops a b c flash.Off ab h
reads_then_fails P a b c mount.Failed ab h = reads_then_stops a b c flash.Failed ab h
reads_then_fails P a b c mount.Memory ab h = reads_then_stops a b c flash.Memory ab h

-- the flash or memory stopped it
pub stopped : (P : Damage → Type 0) (old new : Flash) (fault : FlashFault) → StopsReading old fault new → FailsBy P old (mount_fault fault) new
stopped P old new flash.Off h = h
stopped P old new flash.Failed h = h
stopped P old new flash.Memory h = h

-- ---- the anchor

-- the newest anchor of a sound image is fit
pub fit : (blocks : ℕ) (image : Image) (found : Found) → newest_in image ≡ Some found → Sound blocks image → IsAnchorFit blocks found.anchor
fit blocks image found newest sound = (clear_from_sound blocks image found newest sound).anchor

-- the number of its log's first page is low
pub low_log : (anchor : Anchor) → HasLowNumbers anchor → anchor.log_seq < 2 ^ 63
low_log anchor low = omega (arith, low)

-- ---- damages in their order

found_damage : (blocks : ℕ) (image : Image) (found : Found) (d : Damage) → newest_in image ≡ Some found → IsDamageBy blocks image (Some found) d → IsDamage blocks image d
found_damage blocks image found d newest h = subst (λ (o : Option Found). IsDamageBy blocks image o d) (sym newest) h

pub anchor_fails : (blocks : ℕ) (old new : Flash) (fault : MountFault) → FailsBy (LacksAnchor old.image) old fault new → FailsBy (IsDamage blocks old.image) old fault new
anchor_fails blocks old new fault h = fails_as _ _ old new fault (λ d p. subst (λ (o : Option Found). IsDamageBy blocks old.image o d) (sym p.0) p.1) h

pub unfit_fails : (blocks : ℕ) (old new : Flash) (found : Found) → OnlyReads old new → newest_in old.image ≡ Some found → (IsAnchorFit blocks found.anchor → ⊥) → FailsBy (IsDamage blocks old.image) old (mount.Damaged (damages.Anchor found.page)) new
unfit_fails blocks old new found reads newest unfit = (found_damage blocks old.image found (damages.Anchor found.page) newest (inl (record { place = found.page; is = refl; why = record { place = refl; unfit = unfit } })), reads)

pub run_fails : (blocks : ℕ) (old mid new : Flash) (fault : MountFault) (found : Found) → OnlyReads old mid → newest_in old.image ≡ Some found → IsAnchorFit blocks found.anchor → FailsBy (IsRunDamage mid.image found.anchor) mid fault new → FailsBy (IsDamage blocks old.image) old fault new
run_fails blocks old mid new fault found reads newest fit h =
    let is = reads_image old mid reads in
    let here = subst (λ (image : Image). FailsBy (IsRunDamage image found.anchor) mid fault new) is h in
    reads_then_fails (IsDamage blocks old.image) old mid new fault reads (fails_as (IsRunDamage old.image found.anchor) (IsDamage blocks old.image) mid new fault (λ d p. found_damage blocks old.image found d newest (inr (fit, inl p))) here)

pub log_fails : (blocks : ℕ) (old mid late new : Flash) (fault : MountFault) (found : Found) → OnlyReads old mid → OnlyReads mid late → newest_in old.image ≡ Some found → IsAnchorFit blocks found.anchor → All (IsGoodRun mid.image) found.anchor.runs → FailsBy (IsLogDamage late.image found.anchor) late fault new
    → FailsBy (IsDamage blocks old.image) old fault new
log_fails blocks old mid late new fault found first then newest fit good h =
    let reads = reads_then_reads old mid late first then in
    let here = subst (λ (image : Image). FailsBy (IsLogDamage image found.anchor) late fault new) (reads_image old late reads) h in
    let runs = subst (λ (image : Image). All (IsGoodRun image) found.anchor.runs) (reads_image old mid first) good in
    reads_then_fails (IsDamage blocks old.image) old late new fault reads (fails_as (IsLogDamage old.image found.anchor) (IsDamage blocks old.image) late new fault (λ d p. found_damage blocks old.image found d newest (inr (fit, inr (runs, inl p)))) here)

pub value_damage : (blocks : ℕ) (image : Image) (index : Index) (page : ℕ) → IsIndexRead blocks image index → IsFirst (lacks_value blocks image (shown_by image index.found.anchor)) page → IsDamage blocks image (damages.Value page)
value_damage blocks image index page read first =
    found_damage blocks image index.found (damages.Value page) read.found (inr (read.fit, inr (read.levels.good, inr (read.log.whole, inl (record { place = page; is = refl; why = first })))))

pub limit_damage : (blocks : ℕ) (image : Image) (index : Index) (visible : Visible) (limit : ℕ) → IsIndexRead blocks image index → AreVisible blocks image index.found.anchor visible → IsFirst (is_passed blocks image index.found.anchor) limit → IsDamage blocks image (damages.Space limit)
limit_damage blocks image index visible limit read seen first =
    found_damage blocks image index.found (damages.Space limit) read.found (inr (read.fit, inr (read.levels.good, inr (read.log.whole, inr (seen.values, record { place = limit; is = refl; why = first })))))

-- what is clear of each is sound
pub judged_sound : (blocks : ℕ) (image : Image) (index : Index) (visible : Visible) → IsIndexRead blocks image index → AreVisible blocks image index.found.anchor visible → ((limit : ℕ) → is_passed blocks image index.found.anchor limit ≡ false) → Sound blocks image
judged_sound blocks image index visible read seen limits =
    sound_from_clear blocks image index.found (record { newest = read.found; anchor = read.fit; runs = read.levels.good; log = read.log.whole; values = seen.values; limits = limits })

-- ---- what only reads changes nothing of what was read

pub still : (P : ℕ → Image → Type 0) (old new : Flash) → OnlyReads old new → P old.blocks old.image → P new.blocks new.image
still P old new reads h = subst (P new.blocks) (sym (reads_image old new reads)) (subst (λ (n : ℕ). P n old.image) (sym (reads_blocks old new reads)) h)

pub before : (P : ℕ → Image → Type 0) (old new : Flash) → OnlyReads old new → P new.blocks new.image → P old.blocks old.image
before P old new reads h = subst (P old.blocks) (reads_image old new reads) (subst (λ (n : ℕ). P n new.image) (reads_blocks old new reads) h)

-- a later call fails by a damage of the image as it was
pub later_fails : (old mid new : Flash) (fault : MountFault) → OnlyReads old mid → FailsBy (IsDamage mid.blocks mid.image) mid fault new → FailsBy (IsDamage old.blocks old.image) old fault new
later_fails old mid new fault reads h =
    reads_then_fails (IsDamage old.blocks old.image) old mid new fault reads (before (λ blocks image. FailsBy (IsDamage blocks image) mid fault new) old mid reads h)

-- where no limit was found passed, none is
pub limits_none : (device blocks : ℕ) (image : Image) (anchor : Anchor) (counts : Counts) (first : Option ℕ) → device ≡ blocks → ((im : Image) (a : Anchor) → AreCounts device im a counts → IsLeastOf (is_passed device im a) first) → AreCounts blocks image anchor counts → first ≡ None → (limit : ℕ) → is_passed blocks image anchor limit ≡ false
limits_none device blocks image anchor counts first same told are none =
    let here = subst (λ (n : ℕ). (im : Image) (a : Anchor) → AreCounts n im a counts → IsLeastOf (is_passed n im a) first) same told in
    subst (λ (o : Option ℕ). IsLeastOf (is_passed blocks image anchor) o) none (here image anchor are)
