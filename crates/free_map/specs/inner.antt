pub mod FreeMap
