-- Internal keys as the code has them.
use Rattle.ikey.specs.declared.internal_key.InternalKey.{InternalKey}
use Rattle.ikey.specs.Keys.{Key}

abbrev pub key_of : InternalKey → Key
key_of k = record { user = k.user.now; sequence = k.sequence; kind = k.kind }
