use Rattle.kv_device.proofs.ExchangeLaws.{exchange_done, exchange_fault}
use Rattle.kv_device.proofs.exchanging.exchange.Goals as goal

pub returns-in-Ok-clause-ok : goal.returns-in-Ok-clause-ok
returns-in-Ok-clause-ok g c =
    let begun = c.in_ok-tx.ensures.ok in
    exchange_done _ _ _ _ _ _ _ c.requires.up c.requires.idle begun.lowest begun.after c.in-Ok.ensures.ok

pub returns-in-Err-clause-err : goal.returns-in-Err-clause-err
returns-in-Err-clause-err g c =
    let begun = c.in_ok-tx.ensures.ok in
    exchange_fault _ _ _ _ _ _ _ _ _ c.abort.result c.requires.up c.requires.idle begun.lowest begun.after c.in-Err.ensures.err c.abort.ensures.ok c.abort.ensures.err
