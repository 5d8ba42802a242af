use Rattle.std.proofs.Common.{arith}
use Rattle.std.specs.Int.{w16, w32, w64, to_be_bytes}
use Rattle.kssd_model.specs.AnchorSpelling.{run_bytes, blocks_bytes}
use Rattle.kssd_anchor.proofs.PageMaking.{run_fits, run_grouped}
use Rattle.kssd_anchor.proofs.spelling.add_run.Goals as goal

pub returns-clause-bytes : goal.returns-clause-bytes
unfolding run_bytes
returns-clause-bytes c =
    let run = c.args.run.now in
    rw (c.in_ok-add_blocks.ensures, c.as_slice.ensures.value, c.in_ok-append-4.ensures.ok, c.to_be_bytes-4.ensures, c.len.ensures, c.in_ok-append-3.ensures.ok, c.to_be_bytes-3.ensures, c.in_ok-append-2.ensures.ok, c.to_be_bytes-2.ensures, c.in_ok-append.ensures.ok, c.to_be_bytes.ensures, c.in_ok-push.ensures.ok)
    (run_grouped c.args.bytes.now run.level (to_be_bytes w64 run.number) (to_be_bytes w32 run.entries) (to_be_bytes w32 run.pages) (to_be_bytes w16 _) (blocks_bytes run.blocks))

pub returns-clause-fits : goal.returns-clause-fits
returns-clause-fits c = run_fits c.args.run.now (omega arith) (omega arith) (omega arith) c.as_slice.ensures.sizes
