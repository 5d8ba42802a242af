-- At most one damage applies, and none to a sound image.
use Rattle.std.proofs.Common.{◌≡◌, ◌∙◌, ℕ, ◌*◌, Bool, true, false, not, ◌&&◌, cond, eqb, List, [], ◌∷◌, Option, Some, None, refl, sym, ap, subst, inl, inr}
use Rattle.std.specs.Prelude.{is_some}
use Rattle.std.specs.List.{All, list_all, list_any}
use Rattle.std.proofs.lemmas.Bool.{cases_order, and_parts, or_cases, or_parts, or_from, true≢false, ltb-false, le-ltb, not-false, not-true}
use Rattle.std.proofs.lemmas.List.Elements.{All-head, All-tail}
use Rattle.kv_base.specs.declared.damage.Damage.{Damage}
use Rattle.kv_base.specs.declared.damage.Damage.TheVariants.{Anchor, Run, Log, Value, Space}
use Rattle.kv_nand.specs.Flash.{Image}
use Rattle.kssd_entry.specs.declared.entry.Entry.{Entry}
use Rattle.kssd_model.specs.declared.runs.RunInfo.{RunInfo}
use Rattle.kssd_model.specs.declared.anchor.Found.{Found}
use Rattle.kssd_model.specs.Anchors.{newest_in}
use Rattle.kssd_model.specs.RunPages.{run_page, IsGoodRun, IsFirstBad, IsBadRunAt}
use Rattle.kssd_model.specs.Groups.{IsDamaged}
use Rattle.kssd_model.proofs.GroupsDamage.{one_damage}
use Rattle.kssd_image.specs.Stages.{anchor_of, the_anchor, shown_by, shown_in}
use Rattle.kssd_image.specs.AnchorForm.{HasLowNumbers}
use Rattle.kssd_image.specs.Whole.{page_named, has_its_value, leaves_a_block, HasRoom, IsIndexOf, AreValuesWhole, Sound}
use Rattle.kssd_image.specs.Damages.{IsFirst, IsAt, Else, IsUnfitAt, IsBadRunOf, lacks_value, is_passed, IsDamageOf, IsDamageBy, IsDamage}
use Rattle.kssd_image.specs.DamageLaws.{IsClear}
use Rattle.kssd_image.proofs.LogDamage.{no_log_damage}

-- ---- one place for each kind

first_one : (test : ℕ → Bool) (m n : ℕ) → IsFirst test m → IsFirst test n → m ≡ n
first_one test m n h g = elim (cases_order m n) [
  | inl e ↦ e
  | inr r ↦ elim r [
    | inl lt ↦ absurd (true≢false (sym h.here ∙ g.earlier m lt))
    | inr lt ↦ absurd (true≢false (sym g.here ∙ h.earlier n lt))
  ]
]

at_one : (kind : ℕ → Damage) (Place : ℕ → Type 0) → ((m n : ℕ) → Place m → Place n → m ≡ n) → (d e : Damage) → IsAt kind Place d → IsAt kind Place e → d ≡ e
at_one kind Place one d e h g = h.is ∙ ap kind (one h.place g.place h.why g.why) ∙ sym g.is

else_one : (Here : Damage → Type 0) (Clear : Type 0) (Later : Damage → Type 0) → ((d e : Damage) → Here d → Here e → d ≡ e) → ((d : Damage) → Here d → Clear → ⊥) → ((d e : Damage) → Later d → Later e → d ≡ e)
    → (d e : Damage) → Else Here Clear Later d → Else Here Clear Later e → d ≡ e
else_one Here Clear Later one apart later d e h g = elim h [
  | inl a ↦ elim g [ inl b ↦ one d e a b | inr b ↦ absurd (apart d a b.0) ]
  | inr a ↦ elim g [ inl b ↦ absurd (apart e b a.0) | inr b ↦ later d e a.1 b.1 ]
]

-- ---- runs

pub good_isnt_bad : (image : Image) (run : RunInfo) (page : ℕ) → IsGoodRun image run → IsBadRunAt image run page → ⊥
good_isnt_bad image run page good bad = elim bad [
  | inl b ↦ true≢false (sym (good.pages b.0 b.1.within) ∙ b.1.bad)
  | inr m ↦ m.count good.count
]

bad_run_one : (image : Image) (run : RunInfo) (p q : ℕ) → IsBadRunAt image run p → IsBadRunAt image run q → p ≡ q
bad_run_one image run p q h g = elim h [
  | inl a ↦ elim g [ inl b ↦ a.1.place ∙ ap (run_page run.blocks) (same a.0 b.0 a.1 b.1) ∙ sym b.1.place | inr m ↦ absurd (true≢false (sym (m.pages a.0 a.1.within) ∙ a.1.bad)) ]
  | inr m ↦ elim g [ inl b ↦ absurd (true≢false (sym (m.pages b.0 b.1.within) ∙ b.1.bad)) | inr n ↦ m.place ∙ sym n.place ]
]
  where
    same : (i j : ℕ) → IsFirstBad image run i p → IsFirstBad image run j q → i ≡ j
    same i j a b = elim (cases_order i j) [
      | inl e ↦ e
      | inr r ↦ elim r [
        | inl lt ↦ absurd (true≢false (sym (b.earlier i lt) ∙ a.bad))
        | inr lt ↦ absurd (true≢false (sym (a.earlier j lt) ∙ b.bad))
      ]
    ]

bad_run_of_one : (image : Image) (runs : List RunInfo) (p q : ℕ) → IsBadRunOf image runs p → IsBadRunOf image runs q → p ≡ q
bad_run_of_one image [] p q h g = absurd h
bad_run_of_one image (run ∷ runs) p q h g = elim h [
  | inl a ↦ elim g [ inl b ↦ bad_run_one image run p q a b | inr b ↦ absurd (good_isnt_bad image run p b.0 a) ]
  | inr a ↦ elim g [ inl b ↦ absurd (good_isnt_bad image run q a.0 b) | inr b ↦ bad_run_of_one image runs p q a.1 b.1 ]
]

pub good_arent_bad : (image : Image) (runs : List RunInfo) (page : ℕ) → All (IsGoodRun image) runs → IsBadRunOf image runs page → ⊥
good_arent_bad image [] page all bad = bad
good_arent_bad image (run ∷ runs) page all bad = elim bad [
  | inl b ↦ good_isnt_bad image run page (All-head (IsGoodRun image) run runs all) b
  | inr b ↦ good_arent_bad image runs page (All-tail (IsGoodRun image) run runs all) b.1
]

-- ---- values

no_lack : (blocks : ℕ) (image : Image) (entries : List Entry) (page : ℕ) → list_all (has_its_value blocks image) entries ≡ true → lacks_value blocks image entries page ≡ true → ⊥
no_lack blocks image [] page all lack = true≢false (sym lack)
no_lack blocks image (e ∷ es) page all lack =
    let p = and_parts _ _ all in
    elim (or_cases _ _ lack) [
      | inl here ↦ true≢false (sym p.0 ∙ not-true (has_its_value blocks image e) (and_parts (list_any (λ named. eqb named page) (page_named e)) (not (has_its_value blocks image e)) here).1)
      | inr there ↦ no_lack blocks image es page p.1 there
    ]

-- ---- limits

-- by which test a limit is passed
limits_cases : (P : Bool → Type 0) (zero_ one two three four : Bool) (limit : ℕ) → P zero_ → P one → P two → P three → P four → P false
    → P (cond (eqb limit 0) zero_ (cond (eqb limit 1) one (cond (eqb limit 2) two (cond (eqb limit 3) three (eqb limit 4 && four)))))
limits_cases P zero_ one two three four limit p0 p1 p2 p3 p4 other = by (eqb limit 0) (eqb limit 1) (eqb limit 2) (eqb limit 3) (eqb limit 4)
  where
    by : (a b c d e : Bool) → P (cond a zero_ (cond b one (cond c two (cond d three (e && four)))))
    by true b c d e = p0
    by false true c d e = p1
    by false false true d e = p2
    by false false false true e = p3
    by false false false false true = p4
    by false false false false false = other

pub none_passed : (blocks : ℕ) (image : Image) (found : Found) (limit : ℕ) → HasRoom blocks image found.anchor → leaves_a_block blocks (shown_by image found.anchor) ≡ true → is_passed blocks image found.anchor limit ≡ false
unfolding is_passed
none_passed blocks image found limit room spare =
    limits_cases (λ b. b ≡ false) _ _ _ _ _ limit
    (le-ltb _ _ room.keys)
    (or_from _ _ (le-ltb _ _ room.upper) (le-ltb _ _ room.levels))
    (le-ltb _ _ room.base)
    (le-ltb _ _ room.pages)
    (ap not spare)
    refl

pub room_from : (blocks : ℕ) (image : Image) (found : Found) → ((limit : ℕ) → is_passed blocks image found.anchor limit ≡ false) → HasRoom blocks image found.anchor × (leaves_a_block blocks (shown_by image found.anchor) ≡ true)
unfolding is_passed
room_from blocks image found none =
    let both = or_parts _ _ (none 1) in (
      record { keys = ltb-false _ _ (none 0); levels = ltb-false _ _ both.1; upper = ltb-false _ _ both.0; base = ltb-false _ _ (none 2); pages = ltb-false _ _ (none 3) },
      not-false _ (none 4),
    )

-- ---- the image

damage_of_one : (blocks : ℕ) (image : Image) (found : Found) (d e : Damage) → IsDamageOf blocks image found d → IsDamageOf blocks image found e → d ≡ e
damage_of_one blocks image found =
    else_one _ _ _ (at_one Anchor (IsUnfitAt blocks found) (λ m n h g. h.place ∙ sym g.place)) (λ d h fit. h.why.unfit fit)
    (else_one _ _ _ (at_one Run (IsBadRunOf image found.anchor.runs) (bad_run_of_one image found.anchor.runs)) (λ d h all. good_arent_bad image found.anchor.runs h.place all h.why)
    (else_one _ _ _ (at_one Log (IsDamaged image (32 * found.anchor.log_block) found.anchor.log_seq) (λ m n. one_damage image _ _ m n)) (λ d h whole. no_log_damage image _ _ h.place whole h.why)
    (else_one _ _ _ (at_one Value (IsFirst (lacks_value blocks image (shown_by image found.anchor))) (first_one _)) (λ d h all. no_lack blocks image (shown_by image found.anchor) h.place all h.why.here)
    (at_one Space (IsFirst (is_passed blocks image found.anchor)) (first_one _)))))

pub damage_one : (blocks : ℕ) (image : Image) (d e : Damage) → IsDamage blocks image d → IsDamage blocks image e → d ≡ e
damage_one blocks image d e = by (newest_in image)
  where
    by : (o : Option Found) → IsDamageBy blocks image o d → IsDamageBy blocks image o e → d ≡ e
    by None h g = h ∙ sym g
    by (Some found) h g = damage_of_one blocks image found d e h g

pub clear_from_sound : (blocks : ℕ) (image : Image) (found : Found) → newest_in image ≡ Some found → Sound blocks image → IsClear blocks image found
unfolding the_anchor shown_in
clear_from_sound blocks image found newest sound =
    let is : the_anchor image ≡ found.anchor = ap anchor_of newest in
    let s = sound.whole in
    let index = subst (λ a. IsIndexOf blocks image a) is s.index in
    let values = subst (λ a. AreValuesWhole blocks image (shown_by image a)) is s.values in
    record {
      newest = newest;
      anchor = record { form = index.form; numbers = subst HasLowNumbers is sound.numbers };
      runs = index.runs;
      log = index.log;
      values = values.pages;
      limits = λ limit. none_passed blocks image found limit index.room values.spare;
    }

pub sound_from_clear : (blocks : ℕ) (image : Image) (found : Found) → IsClear blocks image found → Sound blocks image
unfolding the_anchor shown_in
sound_from_clear blocks image found clear =
    let is : found.anchor ≡ the_anchor image = sym (ap anchor_of clear.newest) in
    let room = room_from blocks image found clear.limits in
    record {
      whole = record {
        found = ap is_some clear.newest;
        index = subst (λ a. IsIndexOf blocks image a) is (record { form = clear.anchor.form; runs = clear.runs; log = clear.log; room = room.0 });
        values = subst (λ a. AreValuesWhole blocks image (shown_by image a)) is (record { pages = clear.values; spare = room.1 });
      };
      numbers = subst HasLowNumbers is clear.anchor.numbers;
    }

clear_has_none : (blocks : ℕ) (image : Image) (found : Found) (d : Damage) → IsClear blocks image found → IsDamageOf blocks image found d → ⊥
clear_has_none blocks image found d clear damage = elim damage [
  | inl a ↦ a.why.unfit clear.anchor
  | inr r ↦ elim r.1 [
    | inl a ↦ good_arent_bad image found.anchor.runs a.place clear.runs a.why
    | inr r ↦ elim r.1 [
      | inl a ↦ no_log_damage image _ _ a.place clear.log a.why
      | inr r ↦ elim r.1 [
        | inl a ↦ no_lack blocks image (shown_by image found.anchor) a.place clear.values a.why.here
        | inr a ↦ true≢false (sym a.1.why.here ∙ clear.limits a.1.place)
      ]
    ]
  ]
]

pub sound_has_none : (blocks : ℕ) (image : Image) (d : Damage) → Sound blocks image → IsDamage blocks image d → ⊥
sound_has_none blocks image d sound damage = by (newest_in image) refl damage
  where
    by : (o : Option Found) → newest_in image ≡ o → IsDamageBy blocks image o d → ⊥
    by None e h = true≢false (sym sound.whole.found ∙ ap is_some e)
    by (Some found) e h = clear_has_none blocks image found d (clear_from_sound blocks image found e sound) h
