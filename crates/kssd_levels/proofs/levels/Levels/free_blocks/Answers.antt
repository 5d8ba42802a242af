use Rattle.std.proofs.Common.{◌≡◌, ◌∙◌, ℕ, ◌+◌, ◌-◌, ◌≤◌, Bool, true, false, not, cond, List, [], ◌∷◌, ◌++◌, length, take, sym, ap, subst, arith, length-append}
use Rattle.std.specs.List.{range_with_len}
use Rattle.kssd_layout.specs.Numbers.{run_blocks_in}
use Rattle.kssd_model.specs.RunPages.{AreRunBlocks}
use Rattle.kssd_levels.specs.Runs.{has_block}
use Rattle.kssd_levels.specs.Levels.{device_of, named_blocks}
use Rattle.std.proofs.lemmas.List.{append-nil}
use Rattle.kssd_levels.proofs.Free.{free_in, free_more, free_first, all_free, free_run_blocks, free_apart, free_length}
use Rattle.kssd_levels.proofs.levels.Levels.free_blocks.Goals.{then-not-names+in_ok-push, else-not-names}
use Rattle.kssd_levels.proofs.levels.Levels.free_blocks.Goals as goal

pub loop-block-preserved : goal.loop-block-preserved
loop-block-preserved c =
    let named = named_blocks c.args.self.now in
    let block = c.loop-block.block in
    let n = block - 20 in
    let at : block ≡ 20 + n = omega arith in
    let next : n + 1 ≡ block + 1 - 20 = omega arith in
    let more = ap (λ (k : ℕ). free_in named (range_with_len 20 k)) (sym next) ∙ free_more named n block at in
    elim c.if-not-names.branch [
      | then-not-names+in_ok-push w ↦
          let free : not (has_block named block) ≡ true = ap not (sym c.names.ensures) ∙ (let h = w.if-not-names in cc) in
          rw w.blocks-is (record {
            found =
                w.in_ok-push.ensures.ok
                ∙ ap (λ (xs : List ℕ). xs ++ block ∷ []) c.loop-block.invariant.found
                ∙ ap (λ (b : Bool). free_in named (range_with_len 20 n) ++ cond b (block ∷ []) []) (sym free)
                ∙ sym more;
            few = omega (arith, ap length w.in_ok-push.ensures.ok, length-append c.loop-block.blocks (block ∷ []));
          })
      | else-not-names w ↦
          let taken : not (has_block named block) ≡ false = ap not (sym c.names.ensures) ∙ (let h = w.if-not-names in cc) in
          rw w.blocks-is (record {
            found =
                c.loop-block.invariant.found
                ∙ sym (append-nil (free_in named (range_with_len 20 n)))
                ∙ ap (λ (b : Bool). free_in named (range_with_len 20 n) ++ cond b (block ∷ []) []) (sym taken)
                ∙ sym more;
            few = c.loop-block.invariant.few;
          })
    ]

first : (named blocks : List ℕ) (block count size : ℕ) → block ≤ 20 + size → blocks ≡ free_in named (range_with_len 20 (block - 20)) → length blocks ≡ count → blocks ≡ take count (free_in named (range_with_len 20 size))
first named blocks block count size le is len = free_first named (block - 20) size count blocks (omega arith) is len

pub returns-then-len-count-clause-lowest : goal.returns-then-len-count-clause-lowest
returns-then-len-count-clause-lowest c =
    let within : c.loop-block.block ≤ 20 + run_blocks_in (device_of c.args.self.now) = omega arith in
    let len : length c.loop-block.blocks ≡ c.args.count = omega arith in
    first (named_blocks c.args.self.now) c.loop-block.blocks c.loop-block.block c.args.count (run_blocks_in (device_of c.args.self.now)) within c.loop-block.invariant.found len

pub returns-then-len-count-clause-blocks : goal.returns-then-len-count-clause-blocks
returns-then-len-count-clause-blocks c =
    let within : c.loop-block.block ≤ 20 + run_blocks_in (device_of c.args.self.now) = omega arith in
    let len : length c.loop-block.blocks ≡ c.args.count = omega arith in
    let named = named_blocks c.args.self.now in
    let device = device_of c.args.self.now in
    subst (AreRunBlocks device) (sym (first named c.loop-block.blocks c.loop-block.block c.args.count (run_blocks_in device) within c.loop-block.invariant.found len)) (free_run_blocks device c.args.count named)

pub returns-then-len-count-clause-apart : goal.returns-then-len-count-clause-apart
returns-then-len-count-clause-apart c block h =
    let within : c.loop-block.block ≤ 20 + run_blocks_in (device_of c.args.self.now) = omega arith in
    let len : length c.loop-block.blocks ≡ c.args.count = omega arith in
    let named = named_blocks c.args.self.now in
    let device = device_of c.args.self.now in
    free_apart named (range_with_len 20 (run_blocks_in device)) c.args.count block
    (ap (λ (xs : List ℕ). has_block xs block) (sym (first named c.loop-block.blocks c.loop-block.block c.args.count (run_blocks_in device) within c.loop-block.invariant.found len)) ∙ h)

last : (named blocks : List ℕ) (block count size : ℕ) → block ≡ 20 + size → blocks ≡ free_in named (range_with_len 20 (block - 20)) → length blocks ≤ count → blocks ≡ take count (free_in named (range_with_len 20 size))
last named blocks block count size e is le =
    let f : block - 20 ≡ size = omega arith in
    all_free named size count blocks (is ∙ ap (λ (n : ℕ). free_in named (range_with_len 20 n)) f) le

pub returns-clause-lowest : goal.returns-clause-lowest
returns-clause-lowest c =
    let end : c.loop-block.block ≡ 20 + run_blocks_in (device_of c.args.self.now) = omega arith in
    last (named_blocks c.args.self.now) c.loop-block.blocks c.loop-block.block c.args.count (run_blocks_in (device_of c.args.self.now)) end c.loop-block.invariant.found c.loop-block.invariant.few

pub returns-clause-count : goal.returns-clause-count
returns-clause-count c =
    let end : c.loop-block.block ≡ 20 + run_blocks_in (device_of c.args.self.now) = omega arith in
    let named = named_blocks c.args.self.now in
    let device = device_of c.args.self.now in
    ap length (last named c.loop-block.blocks c.loop-block.block c.args.count (run_blocks_in device) end c.loop-block.invariant.found c.loop-block.invariant.few)
    ∙ free_length named (range_with_len 20 (run_blocks_in device)) c.args.count c.requires

pub returns-clause-blocks : goal.returns-clause-blocks
returns-clause-blocks c =
    let end : c.loop-block.block ≡ 20 + run_blocks_in (device_of c.args.self.now) = omega arith in
    let named = named_blocks c.args.self.now in
    let device = device_of c.args.self.now in
    subst (AreRunBlocks device) (sym (last named c.loop-block.blocks c.loop-block.block c.args.count (run_blocks_in device) end c.loop-block.invariant.found c.loop-block.invariant.few)) (free_run_blocks device c.args.count named)

pub returns-clause-apart : goal.returns-clause-apart
returns-clause-apart c block h =
    let end : c.loop-block.block ≡ 20 + run_blocks_in (device_of c.args.self.now) = omega arith in
    let named = named_blocks c.args.self.now in
    let device = device_of c.args.self.now in
    free_apart named (range_with_len 20 (run_blocks_in device)) c.args.count block
    (ap (λ (xs : List ℕ). has_block xs block) (sym (last named c.loop-block.blocks c.loop-block.block c.args.count (run_blocks_in device) end c.loop-block.invariant.found c.loop-block.invariant.few)) ∙ h)
