-- What contracts see of a device with a cache.
use Rattle.std.specs.Prelude.{ℕ, List}
use Rattle.lru.specs.LruCache.{LruCache}
use Rattle.device_model.specs.declared.device.SectorDevice.{Ghosts}
use Rattle.block_cache.specs.declared.cached_device.CachedDevice.{CachedDevice}

module _ {Dev : Type 0} {G : Ghosts Dev} where
  -- the device, and the blocks that the cache has of it
  abbrev pub device_in : CachedDevice Dev G → Dev
  device_in c = c.device

  abbrev pub cache_of : CachedDevice Dev G → LruCache ℕ (List ℕ)
  cache_of c = c.cache
